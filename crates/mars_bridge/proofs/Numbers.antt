-- The number of a node is that of the subject that it denotes.
use Rattle.std.proofs.Common.{◌≡◌, ◌↔◌, ℕ, ℤ, List, [], ◌∷◌, length, slice_get, Some, refl, ap, ◌∙◌, arith}
use Rattle.mars_tree.specs.declared.label.Label.TheVariants.{Int}
use Rattle.mars_tree.specs.Graph.{kids_of, label_of, arity_at}
use Rattle.mars_store.specs.System.{System, IsSystem, resolve}
use Rattle.mars_val.specs.Number.{HasNumber, operation_label}
use Rattle.mars_val.specs.Number.HasNumber.{itself, applied}
use Rattle.mars_machine.specs.Subjects.{Subject, Part}
use Rattle.mars_machine.specs.Equations.{Equations}
use Rattle.mars_machine.specs.BuiltIns.{TermNumber}
use Rattle.mars_machine.specs.BuiltIns.TermNumber.{itself as term-itself, applied as term-applied}
use Rattle.mars_bridge.specs.Represents.{Represents, Denotes}
use Rattle.mars_bridge.proofs.Parts.{root_iff, part_denoted}

two-items : (xs : List ℕ) → length xs ≡ 2 → (a : ℕ) × (b : ℕ) × (xs ≡ a ∷ b ∷ [])
two-items [] e = absurd (omega arith)
two-items (a ∷ []) e = absurd (omega arith)
two-items (a ∷ b ∷ []) e = (a, b, refl)
two-items (a ∷ b ∷ c ∷ xs) e = absurd (omega arith)

module _ (e : Equations) (system : System) (vars : List ℕ) (r : Represents e system vars) (sound : IsSystem system) where
  pub number_forth : (n : ℕ) (z : ℤ) → HasNumber system n z → (subject : Subject) → Denotes e system vars n subject → TermNumber e subject z
  number_forth n z (itself is) subject st = term-itself ((root_iff e system vars r sound n subject st (Int z)).0 is)
  number_forth n z (applied {left = a} {right = b} {x = x} {y = y} operation is kids left right result) subject st =
      let label = operation_label operation in
      let part = part_denoted e system vars r sound n subject st label is in
      term-applied operation ((root_iff e system vars r sound n subject st label).0 is)
      (number_forth a x left (Part subject 0) (part 0 a (ap (λ ks. slice_get ks 0) kids)))
      (number_forth b y right (Part subject 1) (part 1 b (ap (λ ks. slice_get ks 1) kids)))
      result

  pub number_back : (subject : Subject) (z : ℤ) → TermNumber e subject z → (n : ℕ) → Denotes e system vars n subject → HasNumber system n z
  number_back subject z (term-itself f) n st = itself ((root_iff e system vars r sound n subject st (Int z)).1 f)
  number_back subject z (term-applied {x = x} {y = y} operation f left right result) n st =
      let label = operation_label operation in
      let end : ℕ = resolve system.bound n in
      let is : label_of system.nodes end ≡ Some label = (root_iff e system vars r sound n subject st label).1 f in
      let size : length (kids_of system.nodes end) ≡ 2 = (sound.older end).kids ∙ ap arity_at is in
      let both = two-items (kids_of system.nodes end) size in
      let part = part_denoted e system vars r sound n subject st label is in
      applied operation is both.2
      (number_back (Part subject 0) x left both.0 (part 0 both.0 (ap (λ ks. slice_get ks 0) both.2)))
      (number_back (Part subject 1) y right both.1 (part 1 both.1 (ap (λ ks. slice_get ks 1) both.2)))
      result

  pub number_iff : (n : ℕ) (subject : Subject) → Denotes e system vars n subject → (z : ℤ) → HasNumber system n z ↔ TermNumber e subject z
  number_iff n subject st z = (λ h. number_forth n z h subject st, λ h. number_back subject z h n st)
