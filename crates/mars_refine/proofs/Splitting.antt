-- Classes that are split by marks.
use Rattle.std.proofs.Common.{◌≡◌, ◌↔◌, ◌⊎◌, ℕ, zero, suc, ◌<◌, ◌≤◌, ◌+◌, ◌-◌, List, ◌∷◌, Bool, true, false, length, get_or, set, drop, add-one, ◌≢◌, sym, subst, ap, ◌∙◌, arith, inl, inr, Contains, All, length-set}
use Rattle.std.proofs.lemmas.Bool.{cases_lt, cases_eq}
use Rattle.std.proofs.lemmas.List.{get_or_default, length-drop, get_or-drop}
use Rattle.std.proofs.Math.Seq.{drop-cons}
use Rattle.mars_tree.specs.Graph.{Node, IsGraph, kids_of}
use Rattle.mars_refine.specs.declared.edge.Edge.{Edge}
use Rattle.mars_refine.specs.Refine.{class_of, HasKidIn, IsSplitTo, IsRefining}
use Rattle.mars_refine.specs.Classes.{Parted, IsSplit, IsSplitBy, AreFree, IsAlone, IsMarking, is_marked}
use Rattle.mars_refine.specs.Chains.{IsLast}
use Rattle.mars_refine.specs.Marks.{AreNumbers}
use Rattle.mars_refine.specs.Edges.{edge_at, AreEdges, AreByPlace, IsEdgeInto, IsWidth}
use Rattle.std.proofs.lemmas.Option.{slice_get_within}
use Rattle.mars_refine.proofs.Writing.{set_cases, true_or_false}
use Rattle.mars_refine.proofs.Refining.{split_start, split_more, same_shown}
use Rattle.mars_tree.proofs.Paths.{kid_in}

-- one node more is marked
pub marks_more : (marked marked' : List Bool) (node n u : ℕ) → node < n → length marked' ≡ n → marked' ≡ set marked node true → (is_marked marked' u ≡ true) ↔ ((u ≡ node) ⊎ (is_marked marked u ≡ true))
marks_more marked marked' node n u node_in size e =
    let within : node < length marked = omega (arith, ap length e, length-set marked node true, size) in
    let read : is_marked marked' u ≡ is_marked (set marked node true) u = ap (λ m. is_marked m u) e in
    elim (set_cases marked node u true false within) [
      | inl h ↦ (λ k. inl h.0, λ k. read ∙ h.1)
      | inr h ↦ (λ k. inr (sym h.1 ∙ sym read ∙ k), λ k. elim k [ inl same ↦ absurd (h.0 same) | inr mark ↦ read ∙ h.1 ∙ mark ])
    ]

-- the same where a node that is alone may go without a mark
marks_apart : (old new : Parted) (n node u : ℕ) → node < n → length new.marked ≡ n → IsMarking old node new → (IsAlone old.of u → ⊥) → (is_marked new.marked u ≡ true) ↔ ((u ≡ node) ⊎ (is_marked old.marked u ≡ true))
marks_apart old new n node u node_in size (inl e) apart = marks_more old.marked new.marked node n u node_in size e
marks_apart old new n node u node_in size (inr k) apart = (
  λ h. inr (sym (ap (λ m. is_marked m u) k.0) ∙ h),
  λ h. elim h [ inl same ↦ absurd (apart (subst (IsAlone old.of) (sym same) k.1)) | inr mark ↦ ap (λ m. is_marked m u) k.0 ∙ mark ],
)

-- marks by a fact make a split by the fact
pub split_by : (P : ℕ → Type 0) (start mid new : Parted) → mid.of ≡ start.of → mid.count ≡ start.count → ((u : ℕ) → u < length start.of → (IsAlone start.of u → ⊥) → (is_marked mid.marked u ≡ true) ↔ P u) → IsSplit mid new → IsSplitBy P start new
split_by P start mid new of_is count_is marks s =
    let size : length mid.of ≡ length start.of = ap length of_is in
    let cls : (u : ℕ) → class_of mid.of u ≡ class_of start.of u = λ u. ap (λ o. class_of o u) of_is in
    record {
      size = s.size ∙ size;
      more = omega (arith, s.more, count_is);
      moved = λ u h. elim (s.moved u (omega (arith, size))) [
        | inl same ↦ inl (same ∙ cls u)
        | inr behind ↦ inr (omega (arith, behind, count_is))
      ];
      parts = λ u v u_in v_in.
          let p = s.parts u v (omega (arith, size)) (omega (arith, size)) in
          let left : class_of start.of u ≡ class_of start.of v → (u ≡ v → ⊥) → IsAlone start.of u → ⊥ = λ same other alone. other (sym (alone v v_in (sym same))) in
          let right : class_of start.of u ≡ class_of start.of v → (u ≡ v → ⊥) → IsAlone start.of v → ⊥ = λ same other alone. other (alone u u_in same) in (
            λ e.
                let q = p.0 e in
                let same : class_of start.of u ≡ class_of start.of v = sym (cls u) ∙ q.0 ∙ cls v in
                elim (cases_eq u v) [
                  | inl one ↦ (same, subst (λ (w : ℕ). P u ↔ P w) one (λ h. h, λ h. h))
                  | inr other ↦
                      let m = marks u u_in (left same other) in
                      let n = marks v v_in (right same other) in
                      (same, (λ h. n.0 (sym q.1 ∙ m.1 h), λ h. m.0 (q.1 ∙ n.1 h)))
                ],
            λ k. p.1 (
              cls u ∙ k.0 ∙ sym (cls v),
              elim (cases_eq u v) [
                | inl one ↦ ap (is_marked mid.marked) one
                | inr other ↦
                    let m = marks u u_in (left k.0 other) in
                    let n = marks v v_in (right k.0 other) in
                    elim (true_or_false (is_marked mid.marked u)) [
                      | inl a ↦ a ∙ sym (n.1 (k.1.0 (m.0 a)))
                      | inr a ↦ elim (true_or_false (is_marked mid.marked v)) [
                        | inl b ↦ m.1 (k.1.1 (n.0 b)) ∙ sym b
                        | inr b ↦ a ∙ sym b
                      ]
                    ]
              ],
            ),
          );
      free = λ u h. s.unmarked u (omega (arith, s.size));
    }

-- the edges into a class are the kids in the class
pub edges_are_kids : (g : List Node) (edges : List Edge) (starts of : List ℕ) (class u place : ℕ) → AreEdges g edges starts → length of ≡ length g → IsGraph g → u < length g →
    IsEdgeInto edges starts of class (record { node = u; place = place }) ↔ HasKidIn g of class place u
edges_are_kids g edges starts of class u place is size graph u_in = (
  λ (x, x_in, c, to). (x, (is.each x (record { node = u; place = place }) (omega (arith, size)) to).1, c),
  λ (x, here, c).
      let x_in : x < length g = kid_in g u place x graph u_in here in
      (x, omega (arith, size), c, is.all u place x u_in x_in here),
)

-- a found edge is one of the graph
found_is_edge : (g : List Node) (edges : List Edge) (starts of : List ℕ) (class : ℕ) (found : List Edge) → AreEdges g edges starts → length of ≡ length g → ((e : Edge) → Contains found e ↔ IsEdgeInto edges starts of class e) →
    (e : Edge) → Contains found e → (e.node < length g) × (e.place < length (kids_of g e.node))
found_is_edge g edges starts of class found is size all e h =
    let (x, x_in, c, to) = (all e).0 h in
    let a = is.each x e (omega (arith, size)) to in
    (a.0, slice_get_within (kids_of g e.node) e.place x a.1)

pub edge_nodes : (g : List Node) (edges : List Edge) (starts of : List ℕ) (class : ℕ) (found : List Edge) → AreEdges g edges starts → length of ≡ length g → ((e : Edge) → Contains found e ↔ IsEdgeInto edges starts of class e) → All (λ e. e.node < length g) found
edge_nodes g edges starts of class found is size all k d h =
    (found_is_edge g edges starts of class found is size all (get_or found k d) (k, h, get_or_default found k (get_or found k d) d h)).0

-- the places of edges are below the number of kids
pub edge_places : (g : List Node) (edges : List Edge) (starts of : List ℕ) (class size : ℕ) (found read : List Edge) → AreEdges g edges starts → length of ≡ length g → IsWidth g size → ((e : Edge) → Contains found e ↔ IsEdgeInto edges starts of class e) → read ≡ found → All (λ e. e.place < size) read
edge_places g edges starts of class size found read is len most all same = rw same (λ k d h.
    let a = found_is_edge g edges starts of class found is len all (get_or found k d) (k, h, get_or_default found k (get_or found k d) d h) in
    omega (arith, a.1, most (get_or found k d).node a.0))

-- what holds while a class parts others, and the edges of `rest` are still to do
pub record IsParting (g : List Node) (old now : Parted) (class : ℕ) (rest : List Edge) : Type 0 where
  pub size : length now.of ≡ length g
  pub more : old.count ≤ now.count
  pub free : AreFree now
  pub split : IsSplitTo g old.of now.of class old.count rest

-- the found edges are the kids in the class
pub found_are_kids : (g : List Node) (edges : List Edge) (starts of : List ℕ) (class : ℕ) (found : List Edge) → IsGraph g → AreEdges g edges starts → length of ≡ length g →
    ((e : Edge) → Contains found e ↔ IsEdgeInto edges starts of class e) →
    (u place : ℕ) → u < length g → Contains found (record { node = u; place = place }) ↔ HasKidIn g of class place u
found_are_kids g edges starts of class found graph is size all u place u_in =
    let a = all (record { node = u; place = place }) in
    let b = edges_are_kids g edges starts of class u place is size graph u_in in
    (λ h. b.0 (a.0 h), λ h. a.1 (b.1 h))

pub parting_start : (g : List Node) (old : Parted) (class : ℕ) (edges : List Edge) (starts : List ℕ) (found rest : List Edge) → IsGraph g → AreEdges g edges starts → length old.of ≡ length g → AreFree old → IsRefining g old.of class →
    ((e : Edge) → Contains found e ↔ IsEdgeInto edges starts old.of class e) → rest ≡ found → IsParting g old old class rest
parting_start g old class edges starts found rest graph is size free refining all same =
    rw same (record {
      size = size;
      more = omega arith;
      free = free;
      split = split_start g graph old.of class old.count found refining.coarse (λ u place u_in h. (found_are_kids g edges starts old.of class found graph is size all u place u_in).1 h);
    })

in_cons_there : {X : Type 0} (x : X) (xs : List X) (e : X) → Contains (x ∷ xs) e → (x ≡ e) ⊎ Contains xs e
in_cons_there x xs e (zero, within, at) = inl at
in_cons_there x xs e (suc k, within, at) = inr (k, omega arith, at)

-- the first of the edges still to do, and the others
in_drop : (found : List Edge) (i : ℕ) (e : Edge) → i < length found → Contains (drop i found) e → (edge_at found i ≡ e) ⊎ Contains (drop (i + 1) found) e
in_drop found i e within there =
    let cut : drop i found ≡ edge_at found i ∷ drop (i + 1) found = rw add-one (drop-cons found i (record { node = 0; place = 0 }) within) in
    in_cons_there (edge_at found i) (drop (i + 1) found) e (subst (λ (xs : List Edge). Contains xs e) cut there)

-- the edges at a place are done with the last of them
pub parting_more : (g : List Node) (old now new : Parted) (class here i : ℕ) (found : List Edge) → IsGraph g → length old.of ≡ length g → IsRefining g old.of class → IsParting g old now class (drop i found) →
    i < length found → here ≡ (edge_at found i).place →
    ((u place : ℕ) → u < length g → Contains found (record { node = u; place = place }) ↔ HasKidIn g old.of class place u) →
    IsSplitBy (λ u. Contains found (record { node = u; place = here })) now new → IsParting g old new class (drop (i + 1) found)
parting_more g old now new class here i found graph size refining p within at kids s =
    let now_in : (u : ℕ) → u < length g → u < length now.of = λ u h. omega (arith, p.size) in
    record {
      size = s.size ∙ p.size;
      more = omega (arith, s.more, p.more);
      free = s.free;
      split = split_more g graph old.of now.of new.of class old.count now.count here (drop i found) (drop (i + 1) found) refining.coarse p.split p.more (p.size ∙ sym size) s.moved
          (λ place none. elim (cases_eq place here) [
            | inl same ↦ inl same
            | inr other ↦ inr (λ u h. elim (in_drop found i (record { node = u; place = place }) within h) [
              | inl first ↦ other (sym (at ∙ ap (λ (e : Edge). e.place) first))
              | inr more ↦ none u more
            ])
          ])
          (λ u v u_in v_in.
          let q = s.parts u v (now_in u u_in) (now_in v v_in) in
          let a = kids u here u_in in let b = kids v here v_in in (
            λ e. let r = q.0 e in (r.0, (λ h. b.0 (r.1.0 (a.1 h)), λ h. a.0 (r.1.1 (b.1 h)))),
            λ k. q.1 (k.0, (λ h. b.1 (k.1.0 (a.0 h)), λ h. a.1 (k.1.1 (b.0 h)))),
          ));
    }

-- an edge whose place comes again is passed
pub parting_passed : (g : List Node) (old now : Parted) (class here i last : ℕ) (found : List Edge) (keys : List ℕ) → IsParting g old now class (drop i found) →
    i < length found → here ≡ (edge_at found i).place → AreByPlace found keys → IsLast keys here (length keys) last → last ≢ i + 1 → IsParting g old now class (drop (i + 1) found)
parting_passed g old now class here i last found keys p within at beside is later =
    let here_is : get_or keys i 0 ≡ here = beside.each i within ∙ sym at in
    let behind : i + 1 < last = elim (cases_lt i last) [
      | inl lt ↦ omega arith
      | inr le ↦ absurd (is.none_behind i le (omega (arith, beside.beside)) here_is)
    ] in
    let last_in : last - 1 < length found = omega (arith, is.within, beside.beside) in
    let edge : Edge = edge_at found (last - 1) in
    let edge_place : edge.place ≡ here = sym (beside.each (last - 1) last_in) ∙ is.here (omega arith) in
    let k : ℕ = last - 1 - (i + 1) in
    let k_is : i + 1 + k ≡ last - 1 = omega arith in
    let there : Contains (drop (i + 1) found) edge = (
      k,
      omega (arith, length-drop (i + 1) found),
      get_or-drop (i + 1) found k edge ∙ ap (λ j. get_or found j edge) k_is ∙ get_or_default found (last - 1) edge (record { node = 0; place = 0 }) last_in,
    ) in
    record {
      size = p.size;
      more = p.more;
      free = p.free;
      split = record {
        moved = p.split.moved;
        refines = p.split.refines;
        coarse = p.split.coarse;
        split = λ u v place u_in v_in e none. p.split.split u v place u_in v_in e (λ node h. elim (in_drop found i (record { node = node; place = place }) within h) [
          | inl first ↦
              let same : edge.place ≡ place = edge_place ∙ at ∙ ap (λ (x : Edge). x.place) first in
              none edge.node (subst (λ (q : ℕ). Contains (drop (i + 1) found) (record { node = edge.node; place = q })) same there)
          | inr more ↦ none node more
        ]);
      };
    }

-- while the edges at a place are gone through, from the last
pub record IsMarkedAt (edges : List Edge) (keys : List ℕ) (place count : ℕ) (old now : Parted) : Type 0 where
  pub of : now.of ≡ old.of
  pub count_is : now.count ≡ old.count
  pub within : count ≤ length keys
  pub here : 0 < count → get_or keys (count - 1) 0 ≡ place
  pub marked : (u : ℕ) → u < length old.of → (IsAlone old.of u → ⊥) → (is_marked now.marked u ≡ true) ↔ ((i : ℕ) × (count ≤ i) × (i < length edges) × (edge_at edges i ≡ record { node = u; place = place }))

pub marked_at_next : (edges : List Edge) (keys : List ℕ) (place count count' key node : ℕ) (old now new : Parted) → AreByPlace edges keys → 0 < count → IsMarkedAt edges keys place count old now → node < length old.of → node ≡ (edge_at edges (count - 1)).node →
    new.of ≡ now.of → new.count ≡ now.count → length new.marked ≡ length new.of → IsMarking now node new →
    key ≡ get_or keys (count - 1) 0 → IsLast keys key (count - 1) count' → IsMarkedAt edges keys place count' old new
marked_at_next edges keys place count count' key node old now new beside some is node_in node_is of_is count_is sized marked_is key_is last =
    let key_place : key ≡ place = key_is ∙ is.here some in
    let entry_in : count - 1 < length edges = omega (arith, is.within, beside.beside) in
    let edge_is : edge_at edges (count - 1) ≡ record { node = node; place = place } =
    ap (λ n. record { node = n; place = (edge_at edges (count - 1)).place }) (sym node_is) ∙ ap (λ p. record { node = node; place = p }) (sym (beside.each (count - 1) entry_in) ∙ is.here some) in
    record {
      of = of_is ∙ is.of;
      count_is = count_is ∙ is.count_is;
      within = omega (arith, last.within, is.within);
      here = λ more. last.here more ∙ key_place;
      marked = λ u u_in apart.
          let m = marks_apart now new (length old.of) node u node_in (sized ∙ ap length (of_is ∙ is.of)) marked_is (λ alone. apart (subst (λ (o : List ℕ). IsAlone o u) is.of alone)) in
          let old_mark = is.marked u u_in apart in (
            λ h. elim (m.0 h) [
              | inl same ↦ (count - 1, last.within, entry_in, edge_is ∙ ap (λ n. record { node = n; place = place }) (sym same))
              | inr mark ↦ let a = old_mark.0 mark in (a.0, omega (arith, a.1, last.within), a.2, a.3)
            ],
            λ k. m.1 (elim (cases_lt k.0 count) [
              | inl lt ↦ elim (cases_eq k.0 (count - 1)) [
                | inl same ↦ inl (sym (ap (λ (e : Edge). e.node) (sym edge_is ∙ ap (edge_at edges) (sym same) ∙ k.3)))
                | inr other ↦ absurd (last.none_behind k.0 k.1 (omega arith) (beside.each k.0 k.2 ∙ ap (λ (e : Edge). e.place) k.3 ∙ sym key_place))
              ]
              | inr le ↦ inr (old_mark.1 (k.0, le, k.2, k.3))
            ]),
          );
    }

-- at the first entry all are marked
pub marked_at_end : (edges : List Edge) (keys : List ℕ) (place count : ℕ) (old now : Parted) → IsMarkedAt edges keys place count old now → count ≤ 0 →
    (u : ℕ) → u < length old.of → (IsAlone old.of u → ⊥) → (is_marked now.marked u ≡ true) ↔ Contains edges (record { node = u; place = place })
marked_at_end edges keys place count old now is none u u_in apart =
    let m = is.marked u u_in apart in (
      λ h. let a = m.0 h in (a.0, a.2, get_or_default edges a.0 (record { node = u; place = place }) (record { node = 0; place = 0 }) a.2 ∙ a.3),
      λ k. m.1 (k.0, omega arith, k.1, get_or_default edges k.0 (record { node = 0; place = 0 }) (record { node = u; place = place }) k.1 ∙ k.2),
    )

-- nodes parted by their numbers below `k`
pub record IsByNumbers (numbers : List ℕ) (n k : ℕ) (p : Parted) : Type 0 where
  pub size : length p.of ≡ n
  pub free : AreFree p
  pub parts : (u v : ℕ) → u < n → v < n → (class_of p.of u ≡ class_of p.of v) ↔ ((get_or numbers u 0 ≡ get_or numbers v 0) ⊎ ((k ≤ get_or numbers u 0) × (k ≤ get_or numbers v 0)))

pub by_numbers_more : (numbers : List ℕ) (n k : ℕ) (p q : Parted) → IsByNumbers numbers n k p → IsSplitBy (λ u. get_or numbers u 0 ≡ k) p q → IsByNumbers numbers n (k + 1) q
by_numbers_more numbers n k p q is s = record {
  size = s.size ∙ is.size;
  free = s.free;
  parts = λ u v u_in v_in.
      let old = is.parts u v u_in v_in in
      let new = s.parts u v (omega (arith, is.size)) (omega (arith, is.size)) in (
        λ e.
            let a = new.0 e in
            elim (old.0 a.0) [
              | inl same ↦ inl same
              | inr both ↦ elim (cases_eq (get_or numbers u 0) k) [
                | inl here ↦ inl (here ∙ sym (a.1.0 here))
                | inr other ↦ elim (cases_eq (get_or numbers v 0) k) [
                  | inl there ↦ inl (a.1.1 there ∙ sym there)
                  | inr apart ↦ inr (omega (arith, both.0), omega (arith, both.1))
                ]
              ]
            ],
        λ h. elim h [
          | inl same ↦ new.1 (old.1 (inl same), (λ a. sym same ∙ a, λ a. same ∙ a))
          | inr both ↦ new.1 (old.1 (inr (omega (arith, both.0), omega (arith, both.1))), (λ a. absurd (omega (arith, both.0)), λ a. absurd (omega (arith, both.1))))
        ],
      );
}

-- at the end the classes are those of what is shown
pub by_numbers_done : (g : List Node) (numbers : List ℕ) (k : ℕ) (p : Parted) → AreNumbers g numbers → IsByNumbers numbers (length g) k p → length g ≤ k → IsRefining g p.of 0
by_numbers_done g numbers k p are is le =
    let same : (u v : ℕ) → u < length g → v < length g → class_of p.of u ≡ class_of p.of v → get_or numbers u 0 ≡ get_or numbers v 0 = λ u v u_in v_in e. elim ((is.parts u v u_in v_in).0 e) [
      | inl a ↦ a
      | inr a ↦ absurd (omega (arith, a.0, are.below u u_in))
    ] in
    record {
      coarse = λ u v u_in v_in s. (is.parts u v u_in v_in).1 (inl ((are.same u v u_in v_in).1 (same_shown g u v s)));
      shown = λ u v u_in v_in e. (are.same u v u_in v_in).0 (same u v u_in v_in e);
      follows = λ u v j x y u_in v_in e left right. inr (inl (omega arith));
    }

-- while the entries with a number are gone through, from the last
pub record IsMarkedFrom (keys : List ℕ) (number count : ℕ) (old now : Parted) : Type 0 where
  pub of : now.of ≡ old.of
  pub count_is : now.count ≡ old.count
  pub within : count ≤ length keys
  pub here : 0 < count → get_or keys (count - 1) 0 ≡ number
  pub marked : (u : ℕ) → u < length old.of → (IsAlone old.of u → ⊥) → (is_marked now.marked u ≡ true) ↔ ((count ≤ u) × (get_or keys u 0 ≡ number))
