use Rattle.std.proofs.Common.{Some, ap, sym, ◌∙◌, slice_get}
use Rattle.std.specs.Option.{option_map}
use Rattle.std.proofs.lemmas.Option.{slice_get-map}
use Rattle.std.proofs.lemmas.Bool.Decides.{Decides-eqb}
use Rattle.std.proofs.lemmas.Slice.Eq.{slice_eq-Decides}
use Rattle.mars_read.proofs.more_names.MoreNames.is_at.Goals as goal

pub returns-in-Some : goal.returns-in-Some
returns-in-Some c t =
    ap (λ n. slice_get n.added c.args.index) (sym c.self.view_is) ∙ slice_get-map (λ text. text.items) c.self.inside.added.keys c.args.index ∙
    ap (option_map (λ text. text.items)) (sym c.in-Some.ensures.key) ∙ ap Some (sym c.as_slice.ensures.value ∙ (slice_eq-Decides Decides-eqb c.as_slice.result.now c.args.text.now c.eq.result c.eq.ensures).0 t)
