-- What is made of the text of goals is a well-formed ask.
use Rattle.std.proofs.Common.{◌≡◌, ◌<◌, ◌^◌, List, ℕ, length, ap, sym, ◌∙◌, subst, arith, true}
use Rattle.mars_grammar.specs.Building.{both, performs}
use Rattle.mars_grammar.proofs.Meaning.{both-second}
use Rattle.mars_term.specs.declared.clause.Ask.{Ask}
use Rattle.mars_term.specs.Clauses.{IsAsk}
use Rattle.mars_forms.specs.declared.table.TheConstants.{GOALS}
use Rattle.mars_clauses.specs.declared.counts.InputCounts.{InputCounts}
use Rattle.mars_clauses.specs.Limits.{counting, nothing_counted}
use Rattle.mars_clauses.specs.Lists.{Clauses, clauses, clauses_from}
use Rattle.mars_clauses.specs.WellFormed.{MakesWellFormed}
use Rattle.mars_read.specs.Spellings.{Spellings, spellings_from}
use Rattle.mars_read.specs.Spelled.{events_told}
use Rattle.mars_read.specs.ReadGoals.{GoalsValue, IsGoalsText, IsAskOf}
use Rattle.mars_read.proofs.Readings.{value-made, few-events, short-text}
use Rattle.mars_read.proofs.GoalsClosed.{goals-are-asks}

-- the beginning of what is made, part by part
pub goals-begin-parts : (s t : Spellings) (c d : InputCounts) (g h : Clauses) → s ≡ t → c ≡ d → g ≡ h → ◌≡◌ {A = GoalsValue} (s, (c, g)) (t, (d, h))
goals-begin-parts s t c d g h e f i = ap (λ x. (x, (c, g))) e ∙ ap (λ x. (t, (x, g))) f ∙ ap (λ x. (t, (d, x))) i

module _ (bytes : List ℕ) (old : List (List ℕ)) (w : GoalsValue) (r : IsGoalsText bytes old w) where
  clauses-read : w.1.1 ≡ performs clauses (events_told (spellings_from bytes old) r.events) (clauses_from true)
  clauses-read =
      ap (λ x. x.1) (value-made true GOALS.now (both counting clauses) bytes old (nothing_counted true, clauses_from true) w r) ∙
      both-second counting clauses (events_told (spellings_from bytes old) r.events) (nothing_counted true, clauses_from true)

  -- there is an ask
  pub ask-read : (ask : Ask) × IsAskOf w.1.1 ask
  ask-read =
      let is = goals-are-asks r.lexemes r.events (spellings_from bytes old) r.text in
      (is.0, subst (λ (v : Clauses). IsAskOf v is.0) (sym clauses-read) is.1)

  -- it is well formed
  pub ask-well_formed : MakesWellFormed → (ask : Ask) → IsAskOf w.1.1 ask → IsAsk ask
  ask-well_formed law ask is =
      let few : length (events_told (spellings_from bytes old) r.events) < 2 ^ 32 =
      omega (arith, short-text bytes r.short, few-events true GOALS.now (both counting clauses) bytes old (nothing_counted true, clauses_from true) w r) in
      (law true (events_told (spellings_from bytes old) r.events) few).last ask (subst (λ (v : Clauses). IsAskOf v ask) clauses-read is)
