-- For crates above: lists of new jobs, one more at a time.
use Rattle.std.proofs.Common.{◌≡◌, List, [], ◌∷◌, ◌++◌, length, slice_get, Some, sym, subst, inl, inr}
use Rattle.mars_base.proofs.ListFacts.{get-push}
use Rattle.mars_gate.specs.Jobs.{JobSeen, IsNewJob, AreNewJobs}

pub new_pushed : {J : Type 0} (job : J → JobSeen) (jobs more : List J) (j : J) → more ≡ jobs ++ j ∷ [] → AreNewJobs job jobs → IsNewJob (length jobs) (job j) → AreNewJobs job more
new_pushed job jobs more j is new last k i at = elim (get-push jobs j k i (subst (λ l. slice_get l k ≡ Some i) is at)) [
  | inl w ↦ new k i w
  | inr w ↦ subst (λ x. IsNewJob k (job x)) w.1 (subst (λ n. IsNewJob n (job j)) (sym w.0) last)
]
