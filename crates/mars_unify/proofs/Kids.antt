-- What the meeting of the kids of two alike nodes does.
use Rattle.std.proofs.Common.{◌≡◌, ◌⊎◌, ℕ, ◌+◌, ◌<◌, ◌≤◌, List, [], ◌∷◌, length, slice_get, All, Some, refl, sym, ap, ◌∙◌, subst, arith, inl, inr}
use Rattle.std.proofs.lemmas.Bool.{cases_eq}
use Rattle.std.proofs.lemmas.Option.{slice_get_past, slice_get_cases, same_Some}
use Rattle.mars_tree.specs.declared.label.Label.{Label}
use Rattle.mars_tree.specs.Graph.{label_of, kids_of, arity_at}
use Rattle.mars_store.specs.Valuation.{Valuation, value}
use Rattle.mars_store.specs.System.{System, IsSystem, resolve}
use Rattle.mars_store.specs.Solutions.{InSol}
use Rattle.mars_store.proofs.CallerLemmas.{label-within, last-labelled}
use Rattle.mars_unify.specs.MeetingInside.{SameAt, AreSame, IsCovered, IsSettled, AreAlike, AreMet, IsMeeting, AreKidsMet}
use Rattle.mars_unify.specs.Unified.{AreApart}
use Rattle.mars_unify.proofs.Meetings.{meeting-none, meeting-then, covered-kept}

-- alike nodes are ends of links, with equally many kids
alike-left : (s : System) (pair : ℕ × ℕ) → IsSystem s → AreAlike s.nodes pair → resolve s.bound pair.0 ≡ pair.0
alike-left s pair sound is = last-labelled s sound (λ k. k) pair.0 is.label is.left

alike-right : (s : System) (pair : ℕ × ℕ) → IsSystem s → AreAlike s.nodes pair → resolve s.bound pair.1 ≡ pair.1
alike-right s pair sound is = last-labelled s sound (λ k. k) pair.1 is.label is.right

alike-arity : (s : System) (pair : ℕ × ℕ) → IsSystem s → AreAlike s.nodes pair → length (kids_of s.nodes pair.0) ≡ length (kids_of s.nodes pair.1)
alike-arity s pair sound is =
    (sound.older pair.0).kids ∙ ap arity_at (is.left ∙ sym is.right) ∙ sym (sound.older pair.1).kids

pub alike-inside : (s : System) (pair : ℕ × ℕ) → AreAlike s.nodes pair → (pair.0 < length s.nodes) × (pair.1 < length s.nodes)
alike-inside s pair is = (label-within s.nodes pair.0 is.label is.left, label-within s.nodes pair.1 is.label is.right)

alike-now : (old now : System) (pair : ℕ × ℕ) → now.nodes ≡ old.nodes → AreAlike old.nodes pair → AreAlike now.nodes pair
alike-now old now pair e is = subst (λ nodes. AreAlike nodes pair) (sym e) is

-- a solution's tree below one place of a labelled node
kid-value : (s : System) (v : Valuation) → InSol s v → (n : ℕ) (label : Label) → label_of s.nodes n ≡ Some label
    → (k x : ℕ) → slice_get (kids_of s.nodes n) k ≡ Some x → (path : List ℕ) → value v n (k ∷ path) ≡ value v x path
kid-value s v sol n label e k x kx path = sol.labelled n label e (k ∷ path) ∙ rw kx refl

-- kids at one place of a pair that is the same are the same
kids-same : (s : System) (pair : ℕ × ℕ) → AreAlike s.nodes pair → (k x y : ℕ) → slice_get (kids_of s.nodes pair.0) k ≡ Some x → slice_get (kids_of s.nodes pair.1) k ≡ Some y
    → (v : Valuation) → InSol s v → AreSame v pair → AreSame v (x, y)
kids-same s pair is k x y kx ky v sol same = record {
  along = λ path.
      sym (kid-value s v sol pair.0 is.label is.left k x kx path) ∙ same.along (k ∷ path) ∙ kid-value s v sol pair.1 is.label is.right k y ky path;
}

pub kids-start : (s : System) (met : List (ℕ × ℕ)) (pair : ℕ × ℕ) → IsSystem s → AreMet s.nodes met → AreKidsMet s s met met pair 0
kids-start s met pair sound m = record {
  meeting = meeting-none s met pair sound m;
  covered = λ k x y h kx ky. absurd (omega arith);
}

-- there are kids at a place
pub kids-there : (old now : System) (before met : List (ℕ × ℕ)) (pair : ℕ × ℕ) (place arity : ℕ) → AreKidsMet old now before met pair place → IsSystem old
    → AreAlike old.nodes pair → arity ≡ length (kids_of old.nodes (resolve old.bound pair.0)) → place < arity
    → (place < length (kids_of now.nodes (resolve now.bound pair.0))) × (place < length (kids_of now.nodes (resolve now.bound pair.1)))
kids-there old now before met pair place arity k sound is e h =
    let like = alike-now old now pair k.meeting.nodes is in
    let left : length (kids_of now.nodes pair.0) ≡ arity = ap (λ nodes. length (kids_of nodes pair.0)) k.meeting.nodes ∙ ap (λ n. length (kids_of old.nodes n)) (sym (alike-left old pair sound is)) ∙ sym e in
    let right = alike-arity now pair k.meeting.system like in
    (rw (alike-left now pair k.meeting.system like) (omega arith), rw (alike-right now pair k.meeting.system like) (omega arith))

-- the kids that were read
kids-read : (old now : System) (pair : ℕ × ℕ) (place x y : ℕ) → now.nodes ≡ old.nodes → IsSystem now → AreAlike old.nodes pair
    → slice_get (kids_of now.nodes (resolve now.bound pair.0)) place ≡ Some x → slice_get (kids_of now.nodes (resolve now.bound pair.1)) place ≡ Some y
    → (slice_get (kids_of old.nodes pair.0) place ≡ Some x) × (slice_get (kids_of old.nodes pair.1) place ≡ Some y)
kids-read old now pair place x y e sound is kx ky =
    let like = alike-now old now pair e is in (
      ap (λ nodes. slice_get (kids_of nodes pair.0) place) (sym e) ∙ ap (λ n. slice_get (kids_of now.nodes n) place) (sym (alike-left now pair sound like)) ∙ kx,
      ap (λ nodes. slice_get (kids_of nodes pair.1) place) (sym e) ∙ ap (λ n. slice_get (kids_of now.nodes n) place) (sym (alike-right now pair sound like)) ∙ ky,
    )

pub kids-step : (old now new : System) (before met after : List (ℕ × ℕ)) (pair : ℕ × ℕ) (place x y : ℕ) → AreKidsMet old now before met pair place → AreAlike old.nodes pair
    → slice_get (kids_of now.nodes (resolve now.bound pair.0)) place ≡ Some x → slice_get (kids_of now.nodes (resolve now.bound pair.1)) place ≡ Some y
    → IsMeeting now new met after (x, y) × IsCovered new after (x, y) → AreKidsMet old new before after pair (place + 1)
kids-step old now new before met after pair place x y k is kx ky met_kid = record {
  meeting = meeting-then old now new before met after pair (x, y) k.meeting met_kid.0 (kids-same old pair is place x y read.0 read.1);
  covered = λ n i j h ki kj. go n i j h ki kj (cases_eq n place);
}
  where
    read : (slice_get (kids_of old.nodes pair.0) place ≡ Some x) × (slice_get (kids_of old.nodes pair.1) place ≡ Some y)
    read = kids-read old now pair place x y k.meeting.nodes k.meeting.system is kx ky

    go : (n i j : ℕ) → n < place + 1 → slice_get (kids_of old.nodes pair.0) n ≡ Some i → slice_get (kids_of old.nodes pair.1) n ≡ Some j
        → (n ≡ place) ⊎ (n ≡ place → ⊥) → IsCovered new after (i, j)
    go n i j h ki kj (inl e) =
        let xi : x ≡ i = same_Some x i (sym read.0 ∙ ap (slice_get (kids_of old.nodes pair.0)) (sym e) ∙ ki) in
        let yj : y ≡ j = same_Some y j (sym read.1 ∙ ap (slice_get (kids_of old.nodes pair.1)) (sym e) ∙ kj) in
        subst (λ m. IsCovered new after (i, m)) yj (subst (λ m. IsCovered new after (m, y)) xi met_kid.1)
    go n i j h ki kj (inr ne) =
        covered-kept now new met after (i, j) met_kid.0.only met_kid.0.met_front (k.covered n i j (omega (arith, ne)) ki kj)

pub kids-apart : (old now : System) (before met : List (ℕ × ℕ)) (pair : ℕ × ℕ) (place x y : ℕ) → AreKidsMet old now before met pair place → AreAlike old.nodes pair
    → slice_get (kids_of now.nodes (resolve now.bound pair.0)) place ≡ Some x → slice_get (kids_of now.nodes (resolve now.bound pair.1)) place ≡ Some y
    → AreApart now x y → AreApart old pair.0 pair.1
kids-apart old now before met pair place x y k is kx ky apart v sol same =
    let read = kids-read old now pair place x y k.meeting.nodes k.meeting.system is kx ky in
    apart v (k.meeting.all v sol same) (kids-same old pair is place x y read.0 read.1 v sol same)

pub kids-end : (old now : System) (before met : List (ℕ × ℕ)) (pair : ℕ × ℕ) (place arity : ℕ) → AreKidsMet old now before met pair place → IsSystem old
    → AreAlike old.nodes pair → arity ≡ length (kids_of old.nodes (resolve old.bound pair.0)) → arity ≤ place
    → IsMeeting old now before met pair × IsSettled now met pair
kids-end old now before met pair place arity k sound is e h = (
  k.meeting,
  record {
    root = λ v sol.
        let was = k.meeting.only v sol in
        was.labelled pair.0 is.label is.left [] ∙ sym (was.labelled pair.1 is.label is.right []);
    below = λ v sol at path all. go v sol at path all;
  },
)
  where
    left : length (kids_of old.nodes pair.0) ≡ arity
    left = ap (λ n. length (kids_of old.nodes n)) (sym (alike-left old pair sound is)) ∙ sym e

    right : length (kids_of old.nodes pair.0) ≡ length (kids_of old.nodes pair.1)
    right = alike-arity old pair sound is

    go : (v : Valuation) → InSol now v → (at : ℕ) (path : List ℕ) → All (SameAt v path) met → SameAt v (at ∷ path) pair
    go v sol at path all =
        let was = k.meeting.only v sol in
        elim (slice_get_cases (kids_of old.nodes pair.0) at).1 [
          | inl (x, xw, xe, xg) ↦ elim (slice_get_cases (kids_of old.nodes pair.1) at).1 [
            | inl (y, yw, ye, yg) ↦
                kid-value old v was pair.0 is.label is.left at x xe path
                ∙ k.covered at x y (omega (arith, left)) xe ye v sol path all
                ∙ sym (kid-value old v was pair.1 is.label is.right at y ye path)
            | inr (yw, ye) ↦ absurd (omega (arith, right))
          ]
          | inr (xw, xe) ↦
              was.labelled pair.0 is.label is.left (at ∷ path)
              ∙ rw (xe, slice_get_past (kids_of old.nodes pair.1) at (omega (arith, right))) refl
              ∙ sym (was.labelled pair.1 is.label is.right (at ∷ path))
        ]
