use Rattle.std.proofs.Common.{◌≡◌, ◌<◌, ◌+◌, ◌∷◌, [], ℕ, List, length, arith, All, slice_index_or, subst, sym, ap, ◌∙◌, length-append}
use Rattle.std.proofs.lemmas.Option.{slice_get_within}
use Rattle.mars_first.specs.LinksInside.{AreClasses, AreRoots, AreOne, AreSeveral, IsJoining, total_of_links}
use Rattle.mars_first.specs.PlacesInside.{kids_of_place}
use Rattle.mars_first.specs.StagesInside.{IsPathSearch, HasKidStages, search_work, all_kids_at}
use Rattle.mars_first.specs.declared.links.Classes.{Classes}
use Rattle.mars_first.proofs.Staging.{stage_here, grown_one, grown_several, heads_in, all_wide, less_work}
use Rattle.mars_first.proofs.stages.advance.Goals as goal

pub returns-then-not-are_several-clause-is : goal.returns-then-not-are_several-clause-is
returns-then-not-are_several-clause-is c =
    let s = c.args.places.now in
    let old = c.args.search.now in
    let stage = c.index.result.now in
    let of = c.in_ok-classes.classes in
    let here = stage_here old.stages.items c.len-next.result (length old.classes.items) stage (omega arith) (omega arith) c.index.ensures in
    let are : AreClasses old.links.items stage.nodes.items of.heads.items of.slots.items = subst (λ (ns : List ℕ). AreClasses old.links.items ns of.heads.items of.slots.items) c.deref.ensures.value c.in_ok-classes.ensures.classes in
    let one : AreOne of.heads.items = subst AreOne c.deref-2.ensures.value c.if-not-are_several.ensures in
    let marks = c.requires.is.1 in (
      subst (λ (cs : List Classes). IsPathSearch s old.stages.items cs c.classes_of.new.links.items) (sym c.in_ok-push.ensures.items)
          (grown_one s c.requires.places old.stages.items old.classes.items old.links.items c.requires.is.0 stage here (c.requires.level stage here) of are c.classes_of.new.links.items one c.in_ok-classes.ensures.kept),
      c.in_ok-classes.ensures.marks ∙ marks,
    )

pub join-requires-clause-roots : goal.join-requires-clause-roots
join-requires-clause-roots c = subst (AreRoots c.classes_of.new.links.items) (sym c.deref-3.ensures.value) c.in_ok-classes.ensures.roots

pub push_kid_stages-requires-clause-heads_in : goal.push_kid_stages-requires-clause-heads_in
push_kid_stages-requires-clause-heads_in c =
    let s = c.args.places.now in
    let old = c.args.search.now in
    let stage = c.index.result.now in
    let of = c.in_ok-classes.classes in
    let here = stage_here old.stages.items c.len-next.result (length old.classes.items) stage (omega arith) (omega arith) c.index.ensures in
    let are : AreClasses old.links.items stage.nodes.items of.heads.items of.slots.items = subst (λ (ns : List ℕ). AreClasses old.links.items ns of.heads.items of.slots.items) c.deref.ensures.value c.in_ok-classes.ensures.classes in
    subst (λ (hs : List ℕ). All (λ x. x < length s.kids.items) hs) (sym c.deref-4.ensures.value)
    (heads_in s c.requires.places old.stages.items old.classes.items old.links.items c.requires.is.0 stage here (c.requires.level stage here) of are)

pub push_kid_stages-requires-clause-wide : goal.push_kid_stages-requires-clause-wide
push_kid_stages-requires-clause-wide c =
    let s = c.args.places.now in
    let old = c.args.search.now in
    let stage = c.index.result.now in
    let of = c.in_ok-classes.classes in
    let here = stage_here old.stages.items c.len-next.result (length old.classes.items) stage (omega arith) (omega arith) c.index.ensures in
    let are : AreClasses old.links.items stage.nodes.items of.heads.items of.slots.items = subst (λ (ns : List ℕ). AreClasses old.links.items ns of.heads.items of.slots.items) c.deref.ensures.value c.in_ok-classes.ensures.classes in
    subst (λ (hs : List ℕ). All (λ x. length (kids_of_place s x) ≡ length (kids_of_place s (slice_index_or hs 0 0))) hs) (sym c.deref-4.ensures.value)
    (all_wide s c.requires.places old.stages.items old.classes.items old.links.items c.requires.is.0 stage here (c.requires.level stage here) of are)

pub returns-clause-is : goal.returns-clause-is
returns-clause-is c =
    let s = c.args.places.now in
    let old = c.args.search.now in
    let stage = c.index.result.now in
    let of = c.in_ok-classes.classes in
    let n : c.len-next.result ≡ length old.classes.items = omega arith in
    let here = stage_here old.stages.items c.len-next.result (length old.classes.items) stage n (omega arith) c.index.ensures in
    let are : AreClasses old.links.items stage.nodes.items of.heads.items of.slots.items = subst (λ (ns : List ℕ). AreClasses old.links.items ns of.heads.items of.slots.items) c.deref.ensures.value c.in_ok-classes.ensures.classes in
    let several : AreSeveral of.heads.items = subst AreSeveral c.deref-2.ensures.value c.if-not-are_several.ensures in
    let new = c.push_kid_stages.new.stages.items in
    let joins : IsJoining c.classes_of.new.links.items of.heads.items c.join.new.links.items = subst (λ (hs : List ℕ). IsJoining c.classes_of.new.links.items hs c.join.new.links.items) c.deref-3.ensures.value c.join.ensures in
    let has : HasKidStages s (length old.classes.items) of.heads.items (length (kids_of_place s (slice_index_or of.heads.items 0 0))) old.stages.items new =
    subst (λ (m : ℕ). HasKidStages s m of.heads.items (length (kids_of_place s (slice_index_or of.heads.items 0 0))) old.stages.items new) n
    (subst (λ (hs : List ℕ). HasKidStages s c.len-next.result hs (length (kids_of_place s (slice_index_or hs 0 0))) old.stages.items new) c.deref-4.ensures.value c.in_ok-push_kid_stages.ensures) in
    let marks = c.requires.is.1 in (
      subst (λ (cs : List Classes). IsPathSearch s new cs c.join.new.links.items) (sym c.in_ok-push-2.ensures.items)
          (grown_several s c.requires.places old.stages.items old.classes.items old.links.items c.requires.is.0 stage here (c.requires.level stage here) of are c.classes_of.new.links.items c.join.new.links.items new several c.in_ok-classes.ensures.kept joins has),
      c.in_ok-classes.ensures.marks ∙ marks,
    )

pub returns-clause-less : goal.returns-clause-less
returns-clause-less c =
    let s = c.args.places.now in
    let old = c.args.search.now in
    let stage = c.index.result.now in
    let of = c.in_ok-classes.classes in
    let n : c.len-next.result ≡ length old.classes.items = omega arith in
    let here = stage_here old.stages.items c.len-next.result (length old.classes.items) stage n (omega arith) c.index.ensures in
    let are : AreClasses old.links.items stage.nodes.items of.heads.items of.slots.items = subst (λ (ns : List ℕ). AreClasses old.links.items ns of.heads.items of.slots.items) c.deref.ensures.value c.in_ok-classes.ensures.classes in
    let several : AreSeveral of.heads.items = subst AreSeveral c.deref-2.ensures.value c.if-not-are_several.ensures in
    let new = c.push_kid_stages.new.stages.items in
    let joins : IsJoining c.classes_of.new.links.items of.heads.items c.join.new.links.items = subst (λ (hs : List ℕ). IsJoining c.classes_of.new.links.items hs c.join.new.links.items) c.deref-3.ensures.value c.join.ensures in
    let has : HasKidStages s c.len-next.result of.heads.items (length (kids_of_place s (slice_index_or of.heads.items 0 0))) old.stages.items new =
    subst (λ (hs : List ℕ). HasKidStages s c.len-next.result hs (length (kids_of_place s (slice_index_or hs 0 0))) old.stages.items new) c.deref-4.ensures.value c.in_ok-push_kid_stages.ensures in
    let within = heads_in s c.requires.places old.stages.items old.classes.items old.links.items c.requires.is.0 stage here (c.requires.level stage here) of are in
    let some = slice_get_within of.heads.items 0 several.first several.first_in in
    let kept = c.in_ok-classes.ensures.kept.less in
    let lower = joins.less several in
    let count : length c.push-2.new.self.items ≡ length old.classes.items + 1 = ap length c.in_ok-push-2.ensures.items ∙ length-append old.classes.items (of ∷ []) in
    subst (λ (m : ℕ). search_work (all_kids_at s) (total_of_links c.join.new.links.items) (length new) m < search_work (all_kids_at s) (total_of_links old.links.items) (length old.stages.items) (length old.classes.items)) (sym count)
    (less_work s of.heads.items c.len-next.result (total_of_links old.links.items) (total_of_links c.join.new.links.items) (length old.classes.items) old.stages.items new some within (omega (arith, kept, lower)) c.requires.more has)
