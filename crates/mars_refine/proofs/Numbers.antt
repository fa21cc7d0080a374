-- Numbers of what is shown, by the places of the marks in a list.
use Rattle.std.proofs.Common.{◌≡◌, ◌↔◌, ◌⊎◌, ℕ, ◌<◌, ◌≤◌, ◌+◌, List, [], ◌∷◌, ◌++◌, Bool, true, cond, length, get_or, Option, Some, None, sym, ap, ◌∙◌, arith, inl, inr}
use Rattle.std.specs.List.{position_or_len, list_any}
use Rattle.std.specs.Prelude.{if◌then◌else◌}
use Rattle.std.proofs.lemmas.List.{length_push}
use Rattle.std.proofs.lemmas.List.Sums.{passes_at_first}
use Rattle.std.proofs.lemmas.List.Folds.{position_or_len_push}
use Rattle.std.proofs.lemmas.Bool.{cases_lt}
use Rattle.mars_tree.specs.declared.label.Label.{Label}
use Rattle.mars_tree.specs.Graph.{Node, stands, label_of}
use Rattle.mars_refine.specs.declared.marks.NodeLabel.{NodeLabel}
use Rattle.mars_refine.specs.Marks.{AreNumbers, shown_of, shown_from}
use Rattle.mars_refine.proofs.Writing.{true_or_false}
use Rattle.mars_refine.proofs.Linking.{push_cases}

-- the numbers of the nodes below `node` are the places of what they show
pub record IsNumbered (E : NodeLabel → NodeLabel → Bool) (g : List Node) (node : ℕ) (keys : List NodeLabel) (numbers : List ℕ) : Type 0 where
  pub size : length numbers ≡ node
  pub few : length keys ≤ node
  pub within : (u : ℕ) → u < node → get_or numbers u 0 < length keys
  pub places : (u : ℕ) → u < node → get_or numbers u 0 ≡ position_or_len (E (shown_of g u)) keys

-- a place that is found stays
place_stays : (p : NodeLabel → Bool) (keys : List NodeLabel) (k : NodeLabel) → position_or_len p keys < length keys → position_or_len p (keys ++ k ∷ []) ≡ position_or_len p keys
place_stays p keys k h = grind (arith, position_or_len_push)

-- where it isn't found its place is the end
place_at_end : (p : NodeLabel → Bool) (keys : List NodeLabel) (k : NodeLabel) → length keys ≤ position_or_len p keys → p k ≡ true → position_or_len p (keys ++ k ∷ []) ≡ position_or_len p keys
place_at_end p keys k h t = grind (arith, position_or_len_push)

pub numbered_more : (E : NodeLabel → NodeLabel → Bool) → ((a : NodeLabel) → E a a ≡ true) → (g : List Node) (node : ℕ) (keys keys' : List NodeLabel) (numbers numbers' : List ℕ) (s : NodeLabel) (number : ℕ) → IsNumbered E g node keys numbers → s ≡ shown_of g node →
    number ≡ position_or_len (E s) keys → keys' ≡ (if list_any (E s) keys then keys else keys ++ s ∷ []) → number < length keys' → numbers' ≡ numbers ++ number ∷ [] → IsNumbered E g (node + 1) keys' numbers'
numbered_more E own g node keys keys' numbers numbers' s number is s_is number_is keys_is within numbers_is =
    let grown : ((keys' ≡ keys) ⊎ (keys' ≡ keys ++ s ∷ [])) = elim (true_or_false (list_any (E s) keys)) [
      | inl yes_any ↦ inl (keys_is ∙ ap (λ b. cond b keys (keys ++ s ∷ [])) yes_any)
      | inr no_any ↦ inr (keys_is ∙ ap (λ b. cond b keys (keys ++ s ∷ [])) no_any)
    ] in
    let longer : length keys ≤ length keys' = elim grown [ inl e ↦ omega (arith, ap length e) | inr e ↦ omega (arith, ap length e, length_push keys s) ] in
    let few : length keys' ≤ node + 1 = elim grown [ inl e ↦ omega (arith, ap length e, is.few) | inr e ↦ omega (arith, ap length e, length_push keys s, is.few) ] in
    let stays : (p : NodeLabel → Bool) → position_or_len p keys < length keys → position_or_len p keys' ≡ position_or_len p keys = λ p h. elim grown [ inl e ↦ ap (position_or_len p) e | inr e ↦ ap (position_or_len p) e ∙ place_stays p keys s h ] in
    let new : position_or_len (E s) keys' ≡ position_or_len (E s) keys = elim grown [
      | inl e ↦ ap (position_or_len (E s)) e
      | inr e ↦ ap (position_or_len (E s)) e ∙ elim (cases_lt (position_or_len (E s) keys) (length keys)) [
        | inl lt ↦ place_stays (E s) keys s lt
        | inr le ↦ place_at_end (E s) keys s le (own s)
      ]
    ] in
    rw numbers_is (record {
      size = length_push numbers number ∙ ap (λ n. n + 1) is.size;
      few = few;
      within = λ u h. elim (push_cases numbers number 0 u (omega (arith, length_push numbers number, is.size))) [
        | inl p ↦ omega (arith, p.1, is.within u (omega (arith, p.0, is.size)), longer)
        | inr p ↦ omega (arith, p.1, within)
      ];
      places = λ u h. elim (push_cases numbers number 0 u (omega (arith, length_push numbers number, is.size))) [
        | inl p ↦
            let u_in : u < node = omega (arith, p.0, is.size) in
            p.1 ∙ is.places u u_in ∙ sym (stays (E (shown_of g u)) (omega (arith, is.places u u_in, is.within u u_in)))
        | inr p ↦
            let here : u ≡ node = omega (arith, p.0, is.size) in
            p.1 ∙ number_is ∙ sym new ∙ ap (λ x. position_or_len (E x) keys') (s_is ∙ ap (shown_of g) (sym here))
      ];
    })

-- the code's marks are what is shown
marks_same : (a b : Option Label) (u v : ℕ) → (shown_from a u ≡ shown_from b v) ↔ (stands a u ≡ stands b v)
marks_same (Some a) (Some b) u v = (λ e. cc, λ e. cc)
marks_same None None u v = (λ e. cc, λ e. cc)
marks_same (Some a) None u v = (λ e. cc, λ e. cc)
marks_same None (Some b) u v = (λ e. cc, λ e. cc)

pub numbered_done : (E : NodeLabel → NodeLabel → Bool) → ((a b : NodeLabel) → E a b ≡ true → a ≡ b) → (g : List Node) (node : ℕ) (keys : List NodeLabel) (numbers : List ℕ) → IsNumbered E g node keys numbers → node ≡ length g → AreNumbers g numbers
numbered_done E same g node keys numbers is end = record {
  size = is.size ∙ end;
  below = λ u h. omega (arith, is.within u (omega (arith, end)), is.few, end);
  same = λ u v u_in v_in.
      let u_node : u < node = omega (arith, end) in let v_node : v < node = omega (arith, end) in
      let m = marks_same (label_of g u) (label_of g v) u v in (
        λ e.
            let pu = passes_at_first (E (shown_of g u)) keys (shown_of g u) (omega (arith, is.places u u_node, is.within u u_node)) in
            let pv = passes_at_first (E (shown_of g v)) keys (shown_of g u) (omega (arith, is.places v v_node, is.within v v_node)) in
            let i : position_or_len (E (shown_of g u)) keys ≡ position_or_len (E (shown_of g v)) keys = sym (is.places u u_node) ∙ e ∙ is.places v v_node in
            m.0 (same _ _ pu ∙ ap (λ k. get_or keys k (shown_of g u)) i ∙ sym (same _ _ pv)),
        λ e. is.places u u_node ∙ ap (λ x. position_or_len (E x) keys) (m.1 e) ∙ sym (is.places v v_node),
      );
}
