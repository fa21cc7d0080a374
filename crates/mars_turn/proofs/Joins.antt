-- Joining two passes keeps the rule, and so does the load after it.
use native.Mathlib.Decide.{ℕ_discrete}
use mathlib.Core.Logic.{dite}
use Rattle.std.proofs.Common.{◌≡◌, ℕ, ◌+◌, ◌≤◌, List, [], ◌∷◌, Bool, true, false, refl, sym, ap, ◌∙◌, arith, set, map, length, length-append, ltb-true, true≢false, ◌⊎◌, inl, inr, ltb-false, subst, ◌≢◌}
use Rattle.std.proofs.lemmas.List.Elements.{All-cons}
use Rattle.std.specs.Prelude.{Option, Some, None, nat_lt, if◌then◌else◌, is_some}
use mathlib.Core.Option.{some, none, some-injective}
use lib.ListN.{get_elem?}
use Rattle.atomic_table.specs.Table.{State, Joins, Allows, step, keeps}
use Rattle.atomic_table.proofs.Lists.{set_else, set_here}
use Rattle.mars_turn.specs.declared.pass_view.PassView.{PassView}
use mathlib.Core.List.{IsPrefix}
use Rattle.mars_turn.specs.Items.{total, made_by, one_if, times}
use Rattle.mars_turn.specs.Steps.{joined_view, spent_view, either_known, settled_view, looked}
use Rattle.mars_turn.specs.Views.{number_of_ended}
use Rattle.mars_turn.specs.Rule.{SixParts, inside_in, times_in, passes_in, counts_in}
use Rattle.mars_turn.proofs.Flat.{Flat, Fits, IsTop, knows, allows, joins}
use Rattle.mars_turn.proofs.Lists.{total_set, total_same, total_at, total_two, each_set, IsPrefix-two, IsPrefix-nil, made_by-between, AllMade-append, times-append, map_first-append, some_set, at_within, IsPrefix-same, IsPrefix-length}
use Rattle.mars_turn.proofs.Counted.{inside_in-outside, times_in-live, passes_in-live}

either_is : (made : ℕ) (a b : Option ℕ) → ((m : ℕ) → a ≡ Some m → m ≡ made) → ((m : ℕ) → b ≡ Some m → m ≡ made) → (m : ℕ) → either_known a b ≡ Some m → m ≡ made
either_is made None b p q m e = q m e
either_is made (Some n) b p q m e = p m e

-- where one at most is known
either_counts : (a b : Option ℕ) → one_if (is_some a) + one_if (is_some b) ≤ 1 → one_if (is_some (either_known a b)) ≡ one_if (is_some a) + one_if (is_some b)
either_counts None b le = omega arith
either_counts (Some n) None le = refl
either_counts (Some n) (Some m) le = absurd (omega arith)

longer : {X : Type 0} → Bool → List X → List X → List X
longer b xs ys = if b then ys else xs

module _ {A X : Type 0} (list : A → List X) (fixed : A → ℕ) (by : X → ℕ) (f : ℕ) where
  -- the longer of two lists that were seen
  seen_fits : (b : Bool) (n : ℕ) (xs ys log mine : List X) → nat_lt (length xs) (length ys) ≡ b → IsPrefix xs log → IsPrefix ys log → made_by by n xs ≡ mine → made_by by n log ≡ mine
      → IsPrefix (if b then ys else xs) log × IsPrefix (if b then xs else ys) log × (made_by by n (if b then ys else xs) ≡ mine)
  seen_fits true n xs ys log mine is p q few all = (q, p, made_by-between by n xs ys log mine (IsPrefix-two xs ys log p q (omega (arith, ltb-true (length xs) (length ys) is))) q few all)
  seen_fits false n xs ys log mine is p q few all = (p, q, few)

  joined_fits : (made : ℕ) (log : List X) (v w : PassView X) → Fits by f made log v → Fits by f made log w → Fits by f made log (joined_view v w)
  joined_fits made log v w fits other =
      let seen = seen_fits (nat_lt (length v.seen) (length w.seen)) v.number v.seen w.seen log v.mine refl fits.seen_first other.seen_first fits.mine_seen fits.mine_all in record {
        fixed_is = fits.fixed_is;
        seen_first = seen.0;
        shorter_first = seen.1;
        mine_all = fits.mine_all;
        mine_seen = seen.2;
        ended_all = AllMade-append by v.ended ((w.number, w.mine) ∷ w.ended) log fits.ended_all (All-cons (λ (e : ℕ × List X). made_by by e.0 log ≡ e.1) (w.number, w.mine) w.ended other.mine_all other.ended_all);
        made_is = either_is made v.made w.made fits.made_is other.made_is;
        entered_is = fits.entered_is;
      }

  -- what is counted of two is counted of the one
  total_joined : (count : PassView X → ℕ) (views : List (PassView X)) (id other : ℕ) (v w both : PassView X) → get_elem? views id ≡ some v → get_elem? (set views id both) other ≡ some w
      → count both ≡ count v + count w → count (spent_view {X = X}) ≡ 0 → total count (set (set views id both) other spent_view) ≡ total count views
  total_joined count views id other v w both at there sum empty =
      omega (arith, total_set count (set views id both) other w spent_view there, total_set count views id v both at, sum, empty)

  longest : (b : Bool) (xs ys log : List X) → nat_lt (length xs) (length ys) ≡ b → IsPrefix xs log → IsPrefix ys log → (xs ≡ log) ⊎ (ys ≡ log) → (if b then ys else xs) ≡ log
  longest true xs ys log is p q (inl e) = let l : length xs ≡ length log = ap length e in absurd (omega (arith, l, ltb-true (length xs) (length ys) is, IsPrefix-length ys log q))
  longest true xs ys log is p q (inr e) = e
  longest false xs ys log is p q (inl e) = e
  longest false xs ys log is p q (inr e) = let l : length ys ≡ length log = ap length e in IsPrefix-same xs log p (omega (arith, l, ltb-false (length xs) (length ys) is))

  join_top : (log : List X) (views : List (PassView X)) (id other : ℕ) (v w : PassView X) → get_elem? views id ≡ some v → get_elem? views other ≡ some w → other ≢ id → v.live ≡ true
      → IsPrefix v.seen log → IsPrefix w.seen log → (j : ℕ) × (u : PassView X) × (get_elem? views j ≡ some u) × IsTop log u
      → (j : ℕ) × (u : PassView X) × (get_elem? (set (set views id (joined_view v w)) other spent_view) j ≡ some u) × IsTop log u
  join_top log views id other v w at at' apart live p q (j, u, there, has) =
      let both : PassView X = joined_view v w in
      let here : get_elem? (set (set views id both) other spent_view) id ≡ some both =
      set_else (set views id both) other id spent_view (λ e. apart (sym e)) ∙ set_here views id both (at_within views id v at) in
      let of_two : (v.seen ≡ log) ⊎ (w.seen ≡ log) → IsTop log both = λ c. (live, longest (nat_lt (length v.seen) (length w.seen)) v.seen w.seen log refl p q c) in
      dite (ℕ_discrete j id)
      (λ same. (id, both, here, of_two (inl (subst (λ (x : PassView X). x.seen ≡ log) (some-injective u v (sym there ∙ ap (get_elem? views) same ∙ at)) has.1))))
      (λ not_id. dite (ℕ_discrete j other)
      (λ same. (id, both, here, of_two (inr (subst (λ (x : PassView X). x.seen ≡ log) (some-injective u w (sym there ∙ ap (get_elem? views) same ∙ at')) has.1))))
      (λ not_other. (j, u, set_else (set views id both) other j spent_view not_other ∙ set_else views id j both not_id ∙ there, has)))

  join_flat : (id : ℕ) (v : PassView X) (other : ℕ) (w : PassView X) → v.live ≡ true → w.live ≡ true → v.entered ≡ None → w.entered ≡ None
      → Joins {S = Option A} (Flat list fixed by f) id v other w (joined_view v w) spent_view
  join_flat id v other w live lives out outs s k at apart there =
      let both : PassView X = joined_view v w in
      let at' : get_elem? s.views other ≡ some w = sym (set_else s.views id other both apart) ∙ there in
      let F : PassView X → Type 0 = λ x. x.live ≡ true → Fits by f k.made k.log x in record {
        log = k.log;
        made = k.made;
        held = k.held;
        words = k.words;
        inside = total_joined inside_in s.views id other v w both at there (omega (arith, inside_in-outside v live out, inside_in-outside w lives outs, inside_in-outside both live out)) refl ∙ k.inside;
        one = k.one;
        free = k.free;
        out = k.out;
        each = each_set F (set s.views id both) other spent_view (λ no. absurd (true≢false (sym no)))
            (λ j u n e. each_set F s.views id both (λ _. joined_fits k.made k.log v w (k.each id v at live) (k.each other w at' lives)) (λ i x m d. k.each i x d) j u e);
        top = join_top k.log s.views id other v w at at' apart live (k.each id v at live).seen_first (k.each other w at' lives).seen_first k.top;
        fresh = k.fresh;
        owned = λ n. total_joined (times_in n) s.views id other v w both at there (
            let a : times n (map number_of_ended both.ended) ≡ times n (map number_of_ended v.ended) + times n (map number_of_ended ((w.number, w.mine) ∷ w.ended)) =
            ap (times n) (map_first-append v.ended ((w.number, w.mine) ∷ w.ended)) ∙ times-append n (map number_of_ended v.ended) (map number_of_ended ((w.number, w.mine) ∷ w.ended)) in
            omega (arith, times_in-live both live n, times_in-live v live n, times_in-live w lives n, a)) refl ∙ k.owned n;
        sized = total_joined passes_in s.views id other v w both at there (omega (arith, passes_in-live both live, passes_in-live v live, passes_in-live w lives, length-append v.ended ((w.number, w.mine) ∷ w.ended))) refl ∙ k.sized;
        maker = total_joined counts_in s.views id other v w both at there (
            let a : counts_in v ≡ one_if (is_some v.made) = rw live refl in
            let b : counts_in w ≡ one_if (is_some w.made) = rw lives refl in
            let c : counts_in both ≡ one_if (is_some (either_known v.made w.made)) = rw live refl in
            let le : counts_in v + counts_in w ≤ 1 = omega (arith, total_two counts_in s.views id other v w at at' apart, k.maker) in
            omega (arith, a, b, c, either_counts v.made w.made (omega (arith, a, b, le)))) refl ∙ k.maker;
        few = k.few;
      }

  settled_fits : (made : ℕ) (log : List X) (v : PassView X) → Fits by f made log v → Fits by f made log (settled_view v)
  settled_fits made log v fits = record {
    fixed_is = fits.fixed_is;
    seen_first = fits.seen_first;
    shorter_first = IsPrefix-nil log;
    mine_all = fits.mine_all;
    mine_seen = fits.mine_seen;
    ended_all = fits.ended_all;
    made_is = fits.made_is;
    entered_is = fits.entered_is;
  }

  after_look : (s : State (Option A) (PassView X)) (k : Flat list fixed by f s) (id : ℕ) (v : PassView X) → get_elem? s.views id ≡ some v → v.live ≡ true
      → Flat list fixed by f record { words = k.held ∷ []; homes = s.homes; views = set s.views id (settled_view v) }
  after_look s k id v at live = let w : PassView X = settled_view v in record {
    log = k.log;
    made = k.made;
    held = k.held;
    words = refl;
    inside = total_same inside_in s.views id v w at refl ∙ k.inside;
    one = k.one;
    free = k.free;
    out = k.out;
    each = each_set (λ (u : PassView X). u.live ≡ true → Fits by f k.made k.log u) s.views id w (λ _. settled_fits k.made k.log v (k.each id v at live)) (λ j u n e. k.each j u e);
    top = some_set (IsTop k.log) s.views id v w at (λ h. h) k.top;
    fresh = k.fresh;
    owned = λ n. total_same (times_in n) s.views id v w at refl ∙ k.owned n;
    sized = total_same passes_in s.views id v w at refl ∙ k.sized;
    maker = total_same counts_in s.views id v w at refl ∙ k.maker;
    few = k.few;
  }

  look_flat : (id : ℕ) (v : PassView X) → v.live ≡ true
      → Allows (Flat list fixed by f) 1 id (v, []) 0 (λ n. n) (looked {A = A} by (step 1 0 0 0 none) (v, []))
  look_flat id v live s k len at small =
      let fits = k.each id v at live in
      let after = after_look s k id v at live in (
        settled_view v,
        keeps,
        tt,
        rw k.words after,
        record {
          me = refl;
          seen_first = λ le. IsPrefix-two v.shorter v.seen k.log fits.shorter_first fits.seen_first le;
          knows = knows list fixed by f _ after id (settled_view v) (set_here s.views id (settled_view v) (at_within s.views id v at)) live;
          few = omega (arith, passes_in-live v live, total_at passes_in s.views id v at, k.sized, k.few);
        },
      )

  pub join : (id : ℕ) (v : PassView X) (other : ℕ) (w : PassView X) → v.live ≡ true → w.live ≡ true → v.entered ≡ None → w.entered ≡ None
      → Joins {S = Option A} (SixParts list fixed by f) id v other w (joined_view v w) spent_view
  join id v other w live lives out outs = joins list fixed by f id v other w (joined_view v w) spent_view (join_flat id v other w live lives out outs)

  pub look : (id : ℕ) (v : PassView X) → v.live ≡ true
      → Allows (SixParts list fixed by f) 1 id (v, []) 0 (λ n. n) (looked {A = A} by (step 1 0 0 0 none) (v, []))
  look id v live = allows list fixed by f 1 id (v, []) 0 (λ n. n) (looked {A = A} by (step 1 0 0 0 none) (v, [])) (look_flat id v live)
