use Rattle.std.proofs.Common.{◌≡◌, ◌<◌, ◌-◌, ◌∷◌, List, reverse, take, ap, sym, refl, ◌∙◌, vec_len}
use Rattle.mars_term.specs.declared.term.Term.{Term}
use Rattle.mars_clauses.specs.declared.terms.OpenTerm.{OpenTerm}
use Rattle.mars_clauses.specs.Terms.{open_term, given_in}
use Rattle.mars_clauses.specs.Made.{clause_of}
use Rattle.mars_clauses.proofs.LastRow.{last-row, last-row-set}
use Rattle.mars_clauses.proofs.making.ClauseMaking.give.Goals as goal

pub returns-in_ok-push-in-Some : goal.returns-in_ok-push-in-Some
returns-in_ok-push-in-Some c =
    let rows = c.args.self.now.rows in
    let row : OpenTerm = c.in-Some.row.now in
    let outer : List OpenTerm = reverse (take (vec_len rows - 1) rows.items) in
    let more : 0 < vec_len rows = c.in-Some.ensures.variant.0 refl in
    let had : reverse rows.items ≡ row ∷ outer = last-row rows.items (vec_len rows) row rows.ok.0 more c.in-Some.ensures.value in
    ap (λ (rs : List OpenTerm). record (clause_of c.args.self.now) { rows = rs }) (last-row-set rows.items (vec_len rows) (open_term row.opening c.push.new.self) rows.ok.0 more)
    ∙ ap (λ (ts : List Term). record (clause_of c.args.self.now) { rows = open_term row.opening ts ∷ outer }) c.in_ok-push-in-Some.ensures.ok
    ∙ sym (ap (λ (rs : List OpenTerm). given_in rs c.args.term (record (clause_of c.args.self.now) { rows = rs })) had)
