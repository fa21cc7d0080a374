-- Goals that are put before a list, one at a time.
use Rattle.std.proofs.Common.{◌≡◌, ℕ, ◌+◌, ◌<◌, List, [], ◌∷◌, ◌++◌, length, take, drop, map, get_or, refl, sym, ap, ◌∙◌, arith, length-append}
use Rattle.std.proofs.lemmas.List.{take-append-le, take_all, get_or_at, drop_more}
use Rattle.std.proofs.Math.ListN.{drop_of_length-le}
use Rattle.mars_goals.specs.declared.cells.Pending.{Pending}
use Rattle.mars_goals.specs.GoalLists.{list_at}
use Rattle.mars_goals.proofs.CallerLemmas.{list_left}
use Rattle.mars_memory.specs.ListsInside.{ArePushed}

-- a list is there after others were added
pub list_front : (old new : List (List Pending)) (list : ℕ) → take (length old) new ≡ old → list < length old → list_at new list ≡ list_at old list
list_front old new list front h = sym (list_left (length old) new list h) ∙ ap (λ lists. list_at lists list) front

-- nothing was put before a list
pub pushed_none : (lists : List (List Pending)) (rest : ℕ) → rest < length lists → ArePushed lists lists [] rest rest
pushed_none lists rest h = record { more = omega arith; front = take_all (length lists) lists (omega arith); inside = h; list_is = refl }

-- one goal more
pub pushed_more : (old mid new : List (List Pending)) (goals : List Pending) (goal : Pending) (rest list next : ℕ) → ArePushed old mid goals rest list
    → next ≡ length mid → new ≡ mid ++ (goal ∷ list_at mid list) ∷ [] → ArePushed old new (goal ∷ goals) rest next
pushed_more old mid new goals goal rest list next p at is =
    let size = length-append mid ((goal ∷ list_at mid list) ∷ []) in
    let long : length new ≡ length mid + 1 = ap length is ∙ size in
    record {
      more = omega (arith, long, p.more);
      front = ap (take (length old)) is ∙ take-append-le (length old) mid ((goal ∷ list_at mid list) ∷ []) p.more ∙ p.front;
      inside = omega (arith, long, at);
      list_is = ap (λ lists. list_at lists next) is ∙ get_or_at mid (goal ∷ list_at mid list) [] [] next (sym at) ∙ ap (λ xs. goal ∷ xs) p.list_is;
    }

-- what is made of the items from a place on, with that at the place
pub map_more : {X Y : Type 0} (f : X → Y) (xs : List X) (place : ℕ) (x : X) → place < length xs → x ≡ get_or xs place x → map f (drop place xs) ≡ f x ∷ map f (drop (place + 1) xs)
map_more f xs place x h e = ap (map f) (drop_more xs place x h) ∙ ap (λ y. f y ∷ map f (drop (place + 1) xs)) (sym e)

-- none is after the last one
pub map_none : {X Y : Type 0} (f : X → Y) (xs : List X) → map f (drop (length xs) xs) ≡ []
map_none f xs = ap (map f) (drop_of_length-le xs (omega arith))
