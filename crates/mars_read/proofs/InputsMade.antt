-- What is made of the text of an input is well formed, and small.
use Rattle.std.proofs.Common.{◌≡◌, ◌≤◌, ◌<◌, ◌+◌, ◌^◌, ℕ, List, length, map, refl, ap, ◌∙◌, subst, sym, arith, Bool, false}
use Rattle.std.proofs.lemmas.List.{length-map}
use Rattle.mars_grammar.specs.Building.{both, performs}
use Rattle.mars_grammar.proofs.Meaning.{both-second}
use Rattle.mars_tree.specs.Names.{built_in_names}
use Rattle.mars_forms.specs.declared.table.TheConstants.{INPUT}
use Rattle.mars_clauses.specs.declared.counts.InputCounts.{InputCounts}
use Rattle.mars_clauses.specs.Limits.{counting, nothing_counted}
use Rattle.mars_scripts.specs.Scripts.{Scripts, scripts_making, nothing_told, input_told}
use Rattle.mars_scripts.specs.WellFormed.{IsWellFormedInput, MakesWellFormedInput}
use Rattle.mars_scripts.specs.Sizes.{nodes_put, MakesSmallInput, MakesFewSessions}
use Rattle.mars_read.specs.Spellings.{Spellings, spellings_from}
use Rattle.mars_read.specs.Spelled.{events_told}
use Rattle.mars_read.specs.ReadInput.{InputValue, IsInputText}
use Rattle.mars_read.proofs.Readings.{value-made, few-told, few-events, few-names, short-text}

built_in-few : length built_in_names ≡ 13
unfolding built_in_names
built_in-few = refl

-- the beginning of what is made, part by part
pub input-begins-parts : (s t : Spellings) (c d : InputCounts) (g h : Scripts) → s ≡ t → c ≡ d → g ≡ h → ◌≡◌ {A = InputValue} (s, (c, g)) (t, (d, h))
input-begins-parts s t c d g h e f i = ap (λ x. (x, (c, g))) e ∙ ap (λ x. (t, (x, g))) f ∙ ap (λ x. (t, (d, x))) i

module _ (two : Bool) (bytes : List ℕ) (w : InputValue) (r : IsInputText two bytes w) where
  scripts-read : w.1.1 ≡ performs scripts_making (events_told (spellings_from bytes built_in_names) r.events) nothing_told
  scripts-read =
      ap (λ x. x.1) (value-made two INPUT.now (both counting scripts_making) bytes built_in_names (nothing_counted false, nothing_told) w r) ∙
      both-second counting scripts_making (events_told (spellings_from bytes built_in_names) r.events) (nothing_counted false, nothing_told)

  pub input-well_formed : MakesWellFormedInput → length bytes < 2 ^ 31 → (names : List (List ℕ)) → IsWellFormedInput (input_told names w.1.1)
  input-well_formed law short names =
      subst (λ (s : Scripts). IsWellFormedInput (input_told names s)) (sym scripts-read)
      (law names (events_told (spellings_from bytes built_in_names) r.events)
      (omega (arith, short, few-events two INPUT.now (both counting scripts_making) bytes built_in_names (nothing_counted false, nothing_told) w r)))

  pub input-small : MakesSmallInput → (names : List (List ℕ)) → nodes_put (input_told names w.1.1) ≤ length bytes
  input-small law names =
      omega (
        arith,
        ap (λ (s : Scripts). nodes_put (input_told names s)) scripts-read,
        law names (events_told (spellings_from bytes built_in_names) r.events),
        few-told two INPUT.now (both counting scripts_making) bytes built_in_names (nothing_counted false, nothing_told) w r,
      )

  pub input-few_sessions : MakesFewSessions → (names : List (List ℕ)) → length (input_told names w.1.1).sessions ≤ length bytes
  input-few_sessions law names =
      omega (
        arith,
        ap (λ (s : Scripts). length (input_told names s).sessions) scripts-read,
        law names (events_told (spellings_from bytes built_in_names) r.events),
        few-told two INPUT.now (both counting scripts_making) bytes built_in_names (nothing_counted false, nothing_told) w r,
      )

  pub few-input_names : {X : Type 0} (known : List (List ℕ)) → known ≡ built_in_names → (texts : List X) (f : X → List ℕ) → map f texts ≡ w.0.added → length known + length texts < 2 ^ 32
  few-input_names known is texts f e =
      let short = short-text bytes r.short in
      let few = few-names two INPUT.now (both counting scripts_making) bytes built_in_names (nothing_counted false, nothing_told) w r in
      omega (arith, short, few, ap length is ∙ built_in-few, ap length e, length-map texts f)
