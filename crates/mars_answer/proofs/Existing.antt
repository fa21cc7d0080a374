-- Roots have an answer graph: the canonical graph of the system's one graph.
use Rattle.std.proofs.Common.{ℕ, ◌<◌, List, length, map, subst, sym, All}
use Rattle.mars_tree.specs.Graph.{Node}
use Rattle.mars_store.specs.System.{resolve}
use Rattle.mars_store.specs.Shown.{resolved}
use Rattle.mars_answer.specs.AnswerLaws.{ThereIsAnswer}
use Rattle.mars_answer.proofs.Forming.{HasForm, has_form}
use Rattle.mars_answer.proofs.Knowing.{walks_shown, known_kept, answer_shows}
use Rattle.mars_answer.proofs.Parts.{resolved-graph, resolved-length, ends-below}

pub there_is_answer : ThereIsAnswer
there_is_answer system sound roots inside =
    let g : List Node = resolved system in
    let ends : List ℕ = map (resolve system.bound) roots in
    let ends_in : All (λ n. n < length g) ends = subst (λ (count : ℕ). All (λ n. n < count) ends) (sym (resolved-length system sound)) (ends-below system sound roots inside) in
    let formed : HasForm g ends = has_form g (resolved-graph system sound) ends ends_in in
    let known = known_kept system roots g ends formed.form.nodes formed.form.roots (walks_shown system sound roots inside) formed.keeps in
    (formed.form, (answer_shows system roots formed.form formed.canon).1 known)
