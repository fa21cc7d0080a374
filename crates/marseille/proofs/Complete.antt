-- Where the source holds an input whose sessions the order names, nothing else is due than the text of its run.
use Rattle.std.proofs.Common.{◌≡◌, ◌≤◌, ◌+◌, ℕ, List, ◌++◌, length, Option, Some, None, refl, sym, subst, ap, ◌∙◌, arith, inl, inr, append-nil}
use Rattle.std.specs.Prelude.{◌⊎◌}
use Rattle.std.specs.Io.KnownBytes.{Consumes, IsAtEnd}
use Rattle.mars_script.specs.declared.script.Input.{Input}
use Rattle.mars_script.specs.declared.words.Options.{Options}
use Rattle.mars_read.specs.declared.error.ReadError.{ReadError}
use Rattle.mars_read.specs.declared.error.ReadError.TheVariants as why
use Rattle.mars_read.specs.declared.error.TheConstants.{TEXT_LIMIT}
use Rattle.mars_read.specs.ReadInput.{IsReadInput, IsNoInput}
use Rattle.mars_table.specs.declared.entry.Entry.{Entry}
use Rattle.std.proofs.lemmas.List.{length-append}
use Rattle.marseille.specs.declared.status.Status.{Status}
use Rattle.marseille.specs.declared.status.Status.TheVariants as status
use Rattle.marseille.specs.Ran.{RunRelation, NamesSessions}
use Rattle.marseille.specs.Top.{Refuses, IsDueAs}
use Rattle.marseille.proofs.Due.{within_limit}

-- what was consumed to the end is all that there was
all_read : (bytes taken : List ℕ) (new : Option (List ℕ)) → Consumes (Some bytes) new taken → IsAtEnd new → bytes ≡ taken
all_read bytes taken None consumed end = absurd consumed
all_read bytes taken (Some left) consumed end = consumed ∙ ap (λ l. taken ++ l) end ∙ append-nil taken

-- no more was consumed than there was
not_more : (bytes taken : List ℕ) (new : Option (List ℕ)) → Consumes (Some bytes) new taken → length taken ≤ length bytes
not_more bytes taken None consumed = absurd consumed
not_more bytes taken (Some left) consumed = omega (arith, ap length consumed, length-append taken left)

module _ (one : (bytes : List ℕ) (input other : Input) → IsReadInput bytes input → IsReadInput bytes other → input ≡ other)
    (either : (bytes : List ℕ) (input : Input) (e : ReadError) → IsReadInput bytes input → IsNoInput bytes e → e ≡ why.NoMemory)
    (bytes : List ℕ) (input : Input) (says : IsReadInput bytes input) where
  -- it isn't refused
  not_refused : (new : Option (List ℕ)) (history : List Entry) (output : List ℕ) → Refuses (Some bytes) new history output → ⊥
  not_refused new history output is = by_ends is.read.ends
    where
      by_ends : ((length is.bytes ≤ TEXT_LIMIT) × IsAtEnd new) ⊎ (length is.bytes ≡ TEXT_LIMIT + 1) → ⊥
      by_ends (inl both) =
          let same : bytes ≡ is.bytes = all_read bytes is.bytes new is.read.consumed both.1 in
          is.refused.cause (either bytes input is.refused.error says (subst (λ (b : List ℕ). IsNoInput b is.refused.error) (sym same) is.refused.refused))
      by_ends (inr long) = omega (arith, within_limit bytes says.read.short, long, not_more bytes is.bytes new is.read.consumed)

  pub complete : (IsRun : RunRelation) (options : Options) (order : Option (List ℕ)) (old new : Option (List ℕ)) (history : List Entry) (output : List ℕ) (s : Status) → old ≡ Some bytes → NamesSessions order input →
      IsDueAs IsRun options order old new history output s → (s ≡ status.Done) ⊎ (s ≡ status.Memory)
  complete IsRun options order old new history output status.Done holds named is = inl refl
  complete IsRun options order old new history output status.Memory holds named is = inr refl
  complete IsRun options order old new history output status.Words holds named is =
      let consumed = subst (λ (o : Option (List ℕ)). Consumes o new is.bytes) holds is.consumed in
      let same : bytes ≡ is.bytes = all_read bytes is.bytes new consumed is.ended in
      let input_is : input ≡ is.says.input = one bytes input is.says.input says (subst (λ (b : List ℕ). IsReadInput b is.says.input) (sym same) is.says.says) in
      absurd (is.says.is.0 (subst (λ (i : Input). NamesSessions order i) input_is named))
  complete IsRun options order old new history output status.Refused holds named is =
      absurd (not_refused new history output (subst (λ (o : Option (List ℕ)). Refuses o new history output) holds is))
  complete IsRun options order old new history output _ holds named is = absurd is

-- the status is the one that was due, or that of a fault, and there was none
pub without_fault : (s due : Status) → (due ≡ status.Done) ⊎ (due ≡ status.Memory) → (s ≡ due) ⊎ (s ≡ status.Write) → (s ≡ status.Write → ⊥) → (s ≡ status.Done) ⊎ (s ≡ status.Memory)
without_fault s due (inl done) (inl same) none = inl (same ∙ done)
without_fault s due (inr memory) (inl same) none = inr (same ∙ memory)
without_fault s due is (inr fault) none = absurd (none fault)
