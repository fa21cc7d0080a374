use Rattle.std.proofs.Common.{rules, subst, Some, ◌*◌, ◌^◌, ◌%◌, ◌≡◌}
use Rattle.std.specs.HashMap.{Updates}
use Rattle.mars_unify.specs.MetInside.{same_pair}
use Rattle.mars_unify.proofs.Blocks.{first-bit}
use Rattle.mars_unify.proofs.bits.set_at.Goals as goal

pub returns-clause-ok : goal.returns-clause-ok
returns-clause-ok c =
    let same : c.get_mut.follows.lender-at-none ≡ c.args.words.now = search rules in
    first-bit c.args.words.now c.insert.new.self c.args.block c.args.place (search rules)
    (subst (λ m. Updates same_pair m c.insert.new.self c.args.block (Some (1 * 2 ^ c.args.place % 2 ^ 64))) same c.in_ok-insert.ensures.updates)
