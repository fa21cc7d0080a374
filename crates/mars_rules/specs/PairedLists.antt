-- Two lists whose items are related place by place.
use Rattle.std.specs.Prelude.{List, [], ◌∷◌}

-- as many items in both, and the items at each place are so related
abbrev pub AllPaired : {X Y : Type 0} → (X → Y → Type 0) → List X → List Y → Type 0
AllPaired R [] [] = Unit {0}
AllPaired R [] (y ∷ ys) = ⊥
AllPaired R (x ∷ xs) [] = ⊥
AllPaired R (x ∷ xs) (y ∷ ys) = R x y × AllPaired R xs ys
