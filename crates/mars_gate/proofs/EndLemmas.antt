-- Jobs with their passes before the first events and after the last ones.
use Rattle.std.proofs.Common.{◌≡◌, ℕ, List, [], ◌∷◌, length, map, Some, slice_get, sym, ap, ◌∙◌, subst, inl}
use Rattle.std.specs.Prelude.{All}
use Rattle.std.specs.List.{AllZip}
use Rattle.std.proofs.lemmas.List.Elements.{All-head, All-tail}
use Rattle.std.proofs.lemmas.List.{length-map}
use Rattle.mars_base.proofs.ListFacts.{All-from_gets, AllZip-length}
use Rattle.mars_table.specs.declared.entry.Entry.{Entry}
use Rattle.mars_table.specs.History.{of}
use Rattle.mars_book.specs.declared.book.Book.{Book}
use Rattle.mars_book.specs.PassSeen.{PassSeen}
use Rattle.mars_book.specs.Stays.{SamePass}
use Rattle.mars_gate.specs.Jobs.{JobSeen, MatchesEntries, IsNewJob, AreNewJobs, JobHasEnded}
use Rattle.mars_gate.specs.PassesInside.{IsHired, AreHired}
use Rattle.mars_gate.specs.WorkersInside.{IsWorker, EndsWork}
use Rattle.mars_gate.proofs.ListLemmas.{zip_get}
use Rattle.mars_gate.proofs.HireLemmas.{map_at, at_map}

-- a hired pass stays one
still_hired : (book : Book) (count k : ℕ) (p q : PassSeen) → SamePass p q → IsHired book count k p → IsHired book count k q
still_hired book count k p q same h = record {
  of = record { turn = same.turn ∙ h.of.turn; limit = same.fixed ∙ h.of.limit };
  number = same.number ∙ h.number;
  ended = same.ended ∙ h.ended;
  made = same.made ∙ h.made;
}

module _ {J : Type 0} (job : J → JobSeen) (lacks : J → Entry → Type 0) (later : J → J → Type 0) (done : J → Type 0) where
  -- a new job with a pass that made nothing
  new_worker : (book : Book) (count k : ℕ) (j : J) (p : PassSeen) → IsNewJob k (job j) → IsHired book count k p → p.view.mine ≡ [] → IsWorker job lacks later book j p
  new_worker book count k j p new h none = record {
    of = h.of;
    number = h.number ∙ sym new.numbered;
    entries = record {
      going = λ _. none ∙ sym new.none;
      cut = λ _. inl (none ∙ sym new.none);
    };
  }

  module _ {W : Type 0} (job_of : W → J) (pass_of : W → PassSeen) (book : Book) (count : ℕ) where
    pub all_workers : (jobs : List J) (ws : List W) → AreNewJobs job jobs → map job_of ws ≡ jobs
        → ((k : ℕ) (w : W) → slice_get ws k ≡ Some w → IsHired book count k (pass_of w) × ((pass_of w).view.mine ≡ []))
        → All (λ w. IsWorker job lacks later book (job_of w) (pass_of w)) ws
    all_workers jobs ws new is hired = All-from_gets (λ (w : W). IsWorker job lacks later book (job_of w) (pass_of w)) ws
        (λ k w at. new_worker book count k (job_of w) (pass_of w) (new k (job_of w) (map_at job_of ws jobs k w is at)) (hired k w at).0 (hired k w at).1)

    pub all_hired : (old new : List W) → AllZip (λ v w. EndsWork job lacks later done book (job_of v) (pass_of v) (job_of w) (pass_of w)) old new
        → ((k : ℕ) (w : W) → slice_get old k ≡ Some w → IsHired book count k (pass_of w) × ((pass_of w).view.mine ≡ []))
        → AreHired book count (map pass_of new)
    all_hired old new zip hired k p at =
        let w = at_map pass_of new k p at in
        let v = zip_get (λ (v w : W). EndsWork job lacks later done book (job_of v) (pass_of v) (job_of w) (pass_of w)) old new k w.0 zip w.1 in
        subst (λ (x : PassSeen). IsHired book count k x) w.2 (still_hired book count k (pass_of v.0) (pass_of w.0) v.2.keeps.same (hired k v.0 v.1).0)

    pub same_many : (jobs : List J) (old new : List W) (passes : List PassSeen) → map job_of old ≡ jobs → AllZip (λ v w. EndsWork job lacks later done book (job_of v) (pass_of v) (job_of w) (pass_of w)) old new
        → passes ≡ map pass_of new → length passes ≡ length jobs
    same_many jobs old new passes is zip are =
        ap length are ∙ length-map new pass_of ∙ sym (AllZip-length (λ (v w : W). EndsWork job lacks later done book (job_of v) (pass_of v) (job_of w) (pass_of w)) old new zip)
        ∙ sym (length-map old job_of) ∙ ap length is

    -- the passes that meet the program's
    pub passes_hired : (n : ℕ) (old new : List W) (passes : List PassSeen) → AllZip (λ v w. EndsWork job lacks later done book (job_of v) (pass_of v) (job_of w) (pass_of w)) old new
        → ((k : ℕ) (w : W) → slice_get old k ≡ Some w → IsHired book count k (pass_of w) × ((pass_of w).view.mine ≡ []))
        → passes ≡ map pass_of new → n ≡ count → AreHired book n passes
    passes_hired n old new passes zip hired are same =
        subst (λ (m : ℕ). AreHired book m passes) (sym same) (subst (λ (l : List PassSeen). AreHired book count l) (sym are) (all_hired old new zip hired))

    pub all_ended : (history : List Entry) (old new : List W) → AllZip (λ v w. EndsWork job lacks later done book (job_of v) (pass_of v) (job_of w) (pass_of w)) old new
        → All (λ p. of history p.view.number ≡ p.view.mine) (map pass_of new)
        → AllZip (JobHasEnded job lacks later done history) (map job_of old) (map job_of new)
    all_ended history [] [] zip own = tt
    all_ended history (v ∷ old) (w ∷ new) zip own =
        let worker = zip.0.keeps.worker in
        let mine : of history (pass_of w).view.number ≡ (pass_of w).view.mine = All-head (λ (p : PassSeen). of history p.view.number ≡ p.view.mine) (pass_of w) (map pass_of new) own in (
          record {
            number = zip.0.keeps.number;
            goes = zip.0.keeps.goes;
            ended = zip.0.ended;
            entries = subst (λ (l : List Entry). MatchesEntries (lacks (job_of w)) (job (job_of w)) l) (sym mine ∙ ap (of history) worker.number) worker.entries;
          },
          all_ended history old new zip.1 (All-tail (λ (p : PassSeen). of history p.view.number ≡ p.view.mine) (pass_of w) (map pass_of new) own),
        )
    all_ended history [] (w ∷ new) zip own = absurd zip
    all_ended history (v ∷ old) [] zip own = absurd zip
