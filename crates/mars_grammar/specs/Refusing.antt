-- Which texts are refused, and where. A place is told by how many tokens are left there.
use Rattle.std.specs.Prelude.{◌≡◌, ◌≤◌, ℕ, List, [], ◌∷◌, ◌++◌, length, Some}
use Rattle.mars_grammar.specs.declared.Refusal.{Refusal}
use Rattle.mars_grammar.specs.declared.Refusal.TheVariants as refusal
use Rattle.mars_grammar.specs.FormTable.{FormTable, Event, Read, Say, IsText, BeginsText}
use Rattle.mars_grammar.specs.Building.{Build, performs, Fault, Syntax, Over}

-- the events up to the last of these tokens
abbrev pub upto : {S T A : Type 0} → List T → List (Event S T A) → List (Event S T A)
upto [] es = []
upto (t ∷ ts) [] = []
upto (t ∷ ts) (Read s u ∷ es) = Read s u ∷ upto ts es
upto (t ∷ ts) (Say a ∷ es) = Say a ∷ upto (t ∷ ts) es

-- what is read of a text is over this limit
pub record IsOver {S K T A M V L : Type 0} (G : FormTable S K T A M) (B : Build (Event S T A) V L) (start : List S) (v : V) (l : L) (tokens : List T) : Type 0 where
  pub more : List T
  pub events : List (Event S T A)
  pub text : IsText G start (tokens ++ more) events
  pub refuses : B.refuses (performs B (upto tokens events) v) ≡ Some l

module _ {S K T A M V L : Type 0} (G : FormTable S K T A M) (B : Build (Event S T A) V L) (start : List S) (v : V) where
  -- the tokens up to this one begin no text; where none is left, they are none
  abbrev pub IsDead : List T → List T → Type 0
  IsDead front [] = (events : List (Event S T A)) → IsText G start front events → ⊥
  IsDead front (next ∷ rest) = BeginsText G start (front ++ (next ∷ [])) → ⊥

  -- some text begins with the tokens up to this one, and a limit is passed there
  abbrev pub IsPassed : L → List T → List T → Type 0
  IsPassed l front [] = ⊥
  IsPassed l front (next ∷ rest) = IsOver G B start v l (front ++ (next ∷ []))

  abbrev pub IsAt : Fault L → List T → List T → Type 0
  IsAt (Syntax left) front rest = IsDead front rest
  IsAt (Over l left) front rest = IsPassed l front rest

-- how many tokens are left where a fault is
abbrev pub tokens_left : {L : Type 0} → Fault L → ℕ
tokens_left (Syntax left) = left
tokens_left (Over l left) = left

module _ {S K T A M V L : Type 0} (G : FormTable S K T A M) (B : Build (Event S T A) V L) (start : List S) (v : V) (tokens : List T) where
  -- the text has this fault, perhaps after others
  pub record HasFault (fault : Fault L) : Type 0 where
    pub front : List T
    pub rest : List T
    pub whole : tokens ≡ front ++ rest
    pub left : length rest ≡ tokens_left fault
    pub here : IsAt G B start v fault front rest

  -- the fault with the least place
  pub record IsFirst (fault : Fault L) : Type 0 where
    pub has : HasFault fault
    pub least : (other : Fault L) → HasFault other → tokens_left other ≤ tokens_left fault

  abbrev pub IsRefused : Refusal L → Type 0
  IsRefused (refusal.Syntax left) = IsFirst (Syntax left)
  IsRefused (refusal.Limit l left) = IsFirst (Over l left)
  IsRefused refusal.NoMemory = Unit {0}

  -- within all limits
  pub record HasNoFault : Type 0 where
    pub none : (fault : Fault L) → HasFault fault → ⊥

  -- the tokens are a text, and this is made of what it tells
  pub record IsMade (w : V) : Type 0 where
    pub events : List (Event S T A)
    pub text : IsText G start tokens events
    pub made : w ≡ performs B events v
