-- Lists of pairs, each once, and the bits by which they are found.
use Rattle.std.specs.Prelude.{◌≡◌, ℕ, ◌+◌, ◌-◌, ◌*◌, ◌/◌, ◌%◌, ◌^◌, ◌<◌, Bool, false, bit_or, ◌&&◌, List, [], ◌∷◌, ◌++◌, if◌then◌else◌, ◌==◌}
use Rattle.std.specs.Int.{bit_at}
use Rattle.std.specs.List.{list_any}
use Rattle.std.specs.Map.{count_at}
use Rattle.std.specs.HashMap.{HashMap, get}
use Rattle.std.specs.declared.hash.FoldHasher.{FoldHasher}
use Rattle.std.specs.declared.hash.BuildHasherDefault.{BuildHasherDefault}

-- whether two pairs are the same
abbrev pub same_pair : ℕ × ℕ → ℕ × ℕ → Bool
same_pair p q = (p.0 == q.0) && (p.1 == q.1)

-- the pairs, with one that may be new
abbrev pub with_pair : List (ℕ × ℕ) → ℕ × ℕ → List (ℕ × ℕ)
with_pair pairs pair = if list_any (same_pair pair) pairs then pairs else pairs ++ pair ∷ []

-- words of 64 bits, by the places of blocks
abbrev pub Words : Type 0
Words = HashMap (ℕ × ℕ) ℕ (BuildHasherDefault FoldHasher)

-- two numbers of 64 bits
abbrev pub IsPair : ℕ × ℕ → Type 0
IsPair pair = (pair.0 < 2 ^ 64) × (pair.1 < 2 ^ 64)

-- where a pair's block is: its diagonal, on which both numbers go on by equal steps, and which 64 of the first numbers
abbrev pub block_of : ℕ × ℕ → ℕ × ℕ
block_of pair = ((pair.1 + (2 ^ 64 - pair.0)) % 2 ^ 64, pair.0 / 64)

-- a block's word, 0 where it has none
abbrev pub word_of : Words → ℕ × ℕ → ℕ
word_of words block = count_at (get same_pair words) block

-- whether the bit at a place of a block's word is set
abbrev pub has_bit : Words → ℕ × ℕ → ℕ → Bool
has_bit words block place = bit_at (word_of words block) place == 1

-- the bit at a place of a block's word is set, and the other words stay
pub record SetsBit (old new : Words) (block : ℕ × ℕ) (place : ℕ) : Type 0 where
  pub here : word_of new block ≡ bit_or (word_of old block) (1 * 2 ^ place % 2 ^ 64)
  pub elsewhere : (other : ℕ × ℕ) → same_pair block other ≡ false → word_of new other ≡ word_of old other

-- whether a pair's bit is set
abbrev pub is_set : Words → ℕ × ℕ → Bool
is_set words pair = has_bit words (block_of pair) (pair.0 % 64)

-- the bits that are set are just those of the pairs of the list
pub record IsIndex (words : Words) (pairs : List (ℕ × ℕ)) : Type 0 where
  pub has : (pair : ℕ × ℕ) → IsPair pair → is_set words pair ≡ list_any (same_pair pair) pairs
