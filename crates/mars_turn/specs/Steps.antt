-- What the seven kinds of atomic step do to what the passes know.
-- Split, join and load are loads of word 0; take the turn is a compare and exchange of it, from 0 to 1; give back is a swap of it, to 0.
-- Slot out and slot in take the value out of its place and put it there again; they change no view.
use Rattle.std.specs.Prelude.{◌≡◌, ◌⊎◌, ℕ, ◌+◌, ◌^◌, ◌≤◌, List, [], ◌∷◌, ◌++◌, length, Option, Some, None, true, false, nat_lt, if◌then◌else◌}
use mathlib.Core.List.{IsPrefix}
use Rattle.atomic_table.specs.Table.{Me, Step}
use Rattle.mars_turn.specs.declared.pass_view.PassView.{PassView}
use Rattle.mars_turn.specs.Items.{made_by}
use Rattle.mars_turn.specs.Views.{passes_known, KnowsItems}

-- one pass more
abbrev pub one_pass_more : Option ℕ → Option ℕ
one_pass_more None = None
one_pass_more (Some n) = Some (n + 1)

-- what one of two passes knows, the first before the second
abbrev pub either_known : Option ℕ → Option ℕ → Option ℕ
either_known None b = b
either_known (Some n) b = Some n

module _ {X : Type 0} where
  -- the opening pass: number 0, and the one pass that there is
  abbrev pub opening_view : ℕ → PassView X
  opening_view f = record { live = true; number = 0; fixed = f; mine = []; seen = []; shorter = []; ended = []; made = Some 1; entered = None }

  -- a pass that made nothing and in which none ended
  abbrev pub new_view : ℕ → ℕ → List X → PassView X
  new_view n f seen = record { live = true; number = n; fixed = f; mine = []; seen = seen; shorter = []; ended = []; made = None; entered = None }

  -- a pass that was joined into another is spent
  abbrev pub spent_view : PassView X
  spent_view = record { live = false; number = 0; fixed = 0; mine = []; seen = []; shorter = []; ended = []; made = None; entered = None }

  -- Split: the opening pass counts one more,
  abbrev pub after_split : PassView X → PassView X
  after_split v = record v { made = one_pass_more v.made }

  -- and the new pass has that number and has seen the same.
  abbrev pub split_off : PassView X → PassView X
  split_off v = new_view (passes_known v.made) v.fixed v.seen

  -- Join: the longer of the two lists is the one that the pass has seen, the shorter is kept until the load.
  -- The pass takes in the other, what ended in it, and the count of passes.
  abbrev pub joined_view : PassView X → PassView X → PassView X
  joined_view v w = record v {
    seen = if nat_lt (length v.seen) (length w.seen) then w.seen else v.seen;
    shorter = if nat_lt (length v.seen) (length w.seen) then v.seen else w.seen;
    ended = v.ended ++ (w.number, w.mine) ∷ w.ended;
    made = either_known v.made w.made;
  }

  -- Load: the shorter list is forgotten.
  abbrev pub settled_view : PassView X → PassView X
  settled_view v = record v { shorter = [] }

  -- Take the turn: the pass is inside, and has found a list.
  abbrev pub inside_view : PassView X → List X → PassView X
  inside_view v l = record v { entered = Some l }

  -- the list is the one that was found
  abbrev pub IsAsFound : PassView X → List X → Type 0
  IsAsFound v l = v.entered ≡ Some l

  -- the list is the one that was found, with this item after it, which is the pass's own
  pub record HasOneMore (by : X → ℕ) (v : PassView X) (l : List X) (x : X) : Type 0 where
    pub found : List X
    pub entered : v.entered ≡ Some found
    pub longer : l ≡ found ++ x ∷ []
    pub mine : by x ≡ v.number

  -- the list may be given back
  abbrev pub MayLeave : (X → ℕ) → PassView X → List X → Type 0
  MayLeave by v l = IsAsFound v l ⊎ ((x : X) × HasOneMore by v l x)

  -- Give back: with the list as it was found the pass has made and seen what it had,
  abbrev pub LeavesSame : PassView X → List X → PassView X → Type 0
  LeavesSame v l w = IsAsFound v l × (w ≡ record v { entered = None })

  -- and else it has made the new item, and seen the whole list.
  abbrev pub LeavesMore : (X → ℕ) → PassView X → List X → PassView X → Type 0
  LeavesMore by v l w = (x : X) × HasOneMore by v l x × (w ≡ record v { entered = None; mine = v.mine ++ x ∷ []; seen = l })

  abbrev pub Leaves : (X → ℕ) → PassView X → List X → PassView X → Type 0
  Leaves by v l w = LeavesSame v l w ⊎ LeavesMore by v l w

module _ {A X : Type 0} (list : A → List X) (fixed : A → ℕ) (by : X → ℕ) where
  -- The pass has found a value. In its list all that the pass has seen comes first, and the items of its number are those that it made.
  pub record Enters (v : PassView X) (y : A) (w : PassView X) : Type 0 where
    pub view : w ≡ inside_view v (list y)
    pub same_fixed : fixed y ≡ v.fixed
    pub seen_first : IsPrefix v.seen (list y)
    pub own : made_by by v.number (list y) ≡ v.mine

  -- the turn was taken, and the value with it
  abbrev pub TakesTurn : Me (Option A) (PassView X) → Me (Option A) (PassView X) → Type 0
  TakesTurn m m' = (y : A) × (m'.1 ≡ (0, Some y) ∷ []) × Enters m.0 y m'.0

  -- taking the turn tells: where word 0 was 0 the turn was taken, else nothing has changed
  abbrev pub took : Step (Option A) → Me (Option A) (PassView X) → ℕ → Me (Option A) (PassView X) → Type 0
  took st m n m' = (n ≡ 0 → TakesTurn m m') × (¬ (n ≡ 0) → m' ≡ m)

  -- giving back tells: the value is away, the pass has left, and knows its items
  abbrev pub gave : Step (Option A) → Me (Option A) (PassView X) → ℕ → Me (Option A) (PassView X) → Type 0
  gave st m n m' = (y : A) × (m.1 ≡ (0, Some y) ∷ []) × Leaves by m.0 (list y) m'.0 × (m'.1 ≡ []) × KnowsItems by m'.0

-- a load tells: the shorter list begins the longer, the pass knows its items, and no more passes ended than there may be
pub record Looks {A X : Type 0} (by : X → ℕ) (m m' : Me (Option A) (PassView X)) : Type 0 where
  pub me : m' ≡ (settled_view m.0, m.1)
  pub seen_first : length m.0.shorter ≤ length m.0.seen → IsPrefix m.0.shorter m.0.seen
  pub knows : KnowsItems by m'.0
  pub few : length m.0.ended + 1 ≤ 2 ^ 32

abbrev pub looked : {A X : Type 0} → (X → ℕ) → Step (Option A) → Me (Option A) (PassView X) → ℕ → Me (Option A) (PassView X) → Type 0
looked by st m n m' = Looks by m m'
