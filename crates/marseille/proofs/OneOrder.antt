-- Words name one order, or none.
use Rattle.std.proofs.Common.{◌≡◌, ℕ, List, Option, Some, None, sym, subst, ◌∙◌}
use Rattle.mars_script.specs.declared.words.Options.{Options}
use Rattle.mars_script.specs.declared.words.Mode.{Mode}
use Rattle.mars_script.specs.declared.words.Mode.TheVariants as mode
use Rattle.mars_script.proofs.Exact.{says_once}
use Rattle.marseille.specs.Words.{AreRunAs, NamesOrder, RunsNoThreads}

one_of_mode : (m : Mode) (order again : Option (List ℕ)) → NamesOrder m order → NamesOrder m again → order ≡ again
one_of_mode mode.Run order again a b = a ∙ sym b
one_of_mode (mode.Order numbers) order again a b = a ∙ sym b
one_of_mode _ order again a b = absurd a

pub one_order : (texts : List (List ℕ)) (options other : Options) (order again : Option (List ℕ)) → AreRunAs texts options order → AreRunAs texts other again → order ≡ again
one_order texts options other order again a b =
    let same = says_once texts a.said b.said a.words b.words in
    one_of_mode b.said.mode order again (subst (λ w. NamesOrder w.mode order) same a.order_is) b.order_is

-- with an order they run no threads
pub ordered_runs_no_threads : (texts : List (List ℕ)) (options : Options) (order : List ℕ) → AreRunAs texts options (Some order) → RunsNoThreads texts
ordered_runs_no_threads texts options order a other b = let same : Some order ≡ None = one_order texts options other (Some order) None a b in absurd (cc same)
