-- Stacks that are read from their end.
use Rattle.std.proofs.Common.{◌≡◌, ℕ, ◌+◌, ◌-◌, ◌<◌, List, [], ◌∷◌, ◌++◌, length, take, drop, reverse, get_or, slice_set, Some, slice_get, arith, sym, ap, ap₂, ◌∙◌, length-drop}
use Rattle.std.proofs.lemmas.List.{reverse-append, take-append-drop, length-reverse, take_all, length-take-le, set_at}
use Rattle.std.proofs.lemmas.Option.{slice_get-get_or}
use Rattle.std.proofs.Math.Seq.{drop-append_seam}
use Rattle.mars_base.proofs.ListFacts.{take-next}
use Rattle.mars_goals.specs.declared.choice.Choice.{Choice}
use Rattle.mars_goals.specs.Points.{tried_to}

-- the first ones of a list are the last ones of its reverse
pub reverse-take : {X : Type 0} (xs : List X) (k : ℕ) → reverse (take k xs) ≡ drop (length (reverse xs) - k) (reverse xs)
reverse-take xs k =
    let whole : reverse xs ≡ reverse (drop k xs) ++ reverse (take k xs) = ap reverse (sym (take-append-drop k xs)) ∙ reverse-append (take k xs) (drop k xs) in
    let size : length (reverse xs) - k ≡ length (reverse (drop k xs)) = omega (arith, length-reverse xs, length-reverse (drop k xs), length-drop k xs) in
    sym (ap₂ drop size whole ∙ drop-append_seam (reverse (drop k xs)) (reverse (take k xs)))

-- the last one of a list is the first one of its reverse
pub reverse-tried : (xs : List Choice) (rule n : ℕ) (choice : Choice) → n ≡ length xs → 0 < n → choice ≡ get_or xs (n - 1) choice
    → reverse (slice_set xs (n - 1) (record choice { from = rule })) ≡ tried_to rule (reverse xs)
reverse-tried xs rule n choice size some is =
    let front : List Choice = take (n - 1) xs in
    let last : Choice = record choice { from = rule } in
    let at : slice_get xs (n - 1) ≡ Some choice = slice_get-get_or xs (n - 1) choice (omega (arith, size, some)) ∙ ap Some (sym is) in
    let whole : xs ≡ front ++ choice ∷ [] = sym (take_all (n - 1 + 1) xs (omega (arith, size, some))) ∙ take-next xs (n - 1) choice at in
    let few : length front ≡ n - 1 = length-take-le (n - 1) xs (omega (arith, size)) in
    let changed : slice_set xs (n - 1) last ≡ front ++ last ∷ [] = ap (λ ys. slice_set ys (n - 1) last) whole ∙ set_at front choice [] last (n - 1) few in
    ap reverse changed ∙ reverse-append front (last ∷ []) ∙ sym (ap (λ ys. tried_to rule ys) (ap reverse whole ∙ reverse-append front (choice ∷ [])))
