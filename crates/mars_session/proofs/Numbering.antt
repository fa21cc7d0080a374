-- The sessions of an input are numbered in order.
use Rattle.std.proofs.Common.{◌≡◌, ℕ, zero, suc, ◌+◌, List, [], ◌∷◌, ap, sym, ◌∙◌, arith}
use Rattle.std.specs.Prelude.{Some, slice_get}
use Rattle.mars_script.specs.declared.script.Script.{Script}
use Rattle.mars_script.specs.declared.script.Input.{Input}
use Rattle.mars_script.specs.declared.words.Options.{Options}
use Rattle.mars_session.specs.SessionPoints.{SessionPart, part_of, parts_from}
use Rattle.mars_session.specs.WorldLaws.{PartsAreNumbered}

numbered_from : (input : Input) (options : Options) (who : ℕ) (scripts : List Script) (i : ℕ) (part : SessionPart) → slice_get (parts_from input options who scripts) i ≡ Some part → part.who ≡ who + i
numbered_from input options who [] i part is = absurd (cc is)
numbered_from input options who (script ∷ scripts) zero part is = let same : part_of input options who script ≡ part = cc is in sym (ap (λ (p : SessionPart). p.who) same) ∙ omega arith
numbered_from input options who (script ∷ scripts) (suc i) part is = numbered_from input options (suc who) scripts i part is ∙ omega arith

pub parts_are_numbered : PartsAreNumbered
parts_are_numbered input options i part is = numbered_from input options 0 input.sessions i part is ∙ omega arith
