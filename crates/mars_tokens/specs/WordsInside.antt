-- Which words may be words of the grammar, by their first two bytes, as the code tests it.
use Rattle.std.specs.Prelude.{ℕ, List, [], ◌∷◌, Bool, false, ◌||◌, ◌==◌, Option, if◌then◌else◌}
use Rattle.mars_forms.specs.declared.lexeme.TokenKind.{TokenKind}
use Rattle.mars_tokens.specs.declared.words.TheConstants.{WORDS}
use Rattle.mars_tokens.specs.Words.{listed_kind, constant_words}

-- a word of the grammar may begin with these two bytes
abbrev pub may_begin : ℕ → ℕ → Bool
may_begin a b =
    if a == 114 then b == 117 else
    (if a == 115 then b == 101 || b == 97 || b == 104 || b == 119 else
    (if a == 101 then b == 110 else
    (if a == 119 then b == 104 else
    (if a == 108 then b == 111 else
    (if a == 98 then b == 101 else
    (if a == 112 then b == 117 || b == 105 else
    (if a == 97 then b == 115 else
    (if a == 107 then b == 101 else
    (if a == 100 then b == 114 else
    (if a == 99 then b == 111 else false))))))))))

-- a word may be one of the grammar
abbrev pub may_be_listed : List ℕ → Bool
may_be_listed [] = false
may_be_listed (a ∷ []) = false
may_be_listed (a ∷ b ∷ rest) = may_begin a b

-- the kind of a word of the grammar
abbrev pub listed_word : List ℕ → Option TokenKind
listed_word text = listed_kind (constant_words WORDS) text
