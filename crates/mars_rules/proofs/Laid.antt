-- Terms that are laid out one after the other, and rows of dots.
use Rattle.std.proofs.Common.{◌≡◌, ◌⊎◌, ℕ, ℤ, zero, suc, ◌+◌, ◌<◌, ◌≤◌, ◌^◌, List, [], ◌∷◌, ◌++◌, length, get_or, slice_get, Some, refl, sym, ap, ◌∙◌, subst, arith, All, inl, inr, length-append}
use Rattle.std.proofs.lemmas.List.{get_or_append_left}
use Rattle.std.proofs.lemmas.List.Elements.{All-weaker, All-push, All-nil, All-cons, All-pop, All-head}
use Rattle.std.proofs.lemmas.Option.{slice_get-get_or, slice_get_within, same_Some, none-some, get_or_from_slice_get}
use Rattle.mars_tree.specs.declared.label.Label.{Label}
use Rattle.mars_tree.specs.declared.label.Label.TheVariants as label
use Rattle.mars_tree.specs.Label.{arity_of}
use Rattle.mars_tree.specs.Graph.{Node, labelled}
use Rattle.mars_tree.specs.declared.label.NameId.{NameId}
use Rattle.mars_term.specs.declared.term.Term.{Term, Var, Int, Name, Tup, Dot, Str}
use Rattle.mars_term.specs.Parts.{parts_of, HasShortList}
use Rattle.mars_term.specs.Rows.{dots}
use Rattle.mars_term.proofs.RowLemmas.{dots-push}
use Rattle.mars_rules.specs.FlatRules.{IsFlatTerm, IsOwnPlace}
use Rattle.mars_rules.specs.LayingInside.{IsLayout, IsRulePart, AddsNodes, IsLaidOut, AreLaidTerms, IsDotRow, IsRowLaid}
use Rattle.mars_rules.proofs.Layouts.{flat-kept, flat-added, adds-more, adds-refl, adds-trans, own-later, laid-node, laid-variable}
use Rattle.mars_rules.proofs.TermFacts.{label-Var, label-Int, label-Name, label-Tup, label-Dot, label-Str, arguments-Int, arguments-Name, arguments-Tup, arguments-Dot, arguments-Str, tree-Var}
use Rattle.mars_rules.proofs.RuleParts.{own-part, short-name, short-tuple}
use Rattle.mars_rules.specs.TermTrees.{label_of_term, arguments_of}

-- no term yet
pub none-laid : (vars : ℕ) (nodes : List Node) (terms : List Term) → IsLayout vars nodes → AreLaidTerms vars nodes nodes terms 0 []
none-laid vars nodes terms layout = record {
  adds = adds-refl vars nodes layout;
  size = refl;
  flat = λ k place term e f. absurd (none-some place e);
  inside = All-nil (λ place. place < length nodes);
  own = All-nil (IsOwnPlace vars (length nodes));
}

get-push : (xs : List ℕ) (x k y : ℕ) → slice_get (xs ++ x ∷ []) k ≡ Some y → ((k < length xs) × (slice_get xs k ≡ Some y)) ⊎ ((k ≡ length xs) × (x ≡ y))
get-push [] x zero y e = inr (refl, same_Some x y e)
get-push [] x (suc k) y e = absurd (none-some y e)
get-push (z ∷ xs) x zero y e = inl (omega arith, e)
get-push (z ∷ xs) x (suc k) y e = elim (get-push xs x k y e) [ inl (h, f) ↦ inl (omega arith, f) | inr (h, f) ↦ inr (ap suc h, f) ]

-- one term more
pub laid-next : (vars : ℕ) (start now new : List Node) (terms : List Term) (count : ℕ) (places after : List ℕ) (term : Term) (place : ℕ) → AreLaidTerms vars start now terms count places
    → IsLaidOut vars now new term place → slice_get terms count ≡ Some term → after ≡ places ++ place ∷ [] → AreLaidTerms vars start new terms (count + 1) after
laid-next vars start now new terms count places after term place f g e same = rw same (record {
  adds = adds-trans vars start now new f.adds g.adds;
  size = length-append places (place ∷ []) ∙ ap (λ n. n + 1) f.size;
  flat = λ k p t h w. go k p t w (get-push places place k p h);
  inside = All-push (λ p. p < length new) places place (All-weaker (λ p. p < length now) (λ p. p < length new) (λ p h. omega (arith, adds-more vars now new g.adds)) places f.inside) g.flat.inside;
  own = All-push (IsOwnPlace vars (length start)) places place f.own (own-later vars (length now) (length start) place (adds-more vars start now f.adds) g.own);
})
  where
    go : (k p : ℕ) (t : Term) → slice_get terms k ≡ Some t → ((k < length places) × (slice_get places k ≡ Some p)) ⊎ ((k ≡ length places) × (place ≡ p)) → IsFlatTerm new p t
    go k p t w (inl (l, h)) = flat-added vars now new f.adds.layout g.adds p t (f.flat k p t h w)
    go k p t w (inr (l, h)) =
        let at : k ≡ count = l ∙ f.size in
        let is : term ≡ t = same_Some term t (sym e ∙ ap (slice_get terms) (sym at) ∙ w) in
        subst (λ q. IsFlatTerm new q t) h (subst (IsFlatTerm new place) is g.flat)

-- the same of a list that grows with its places
terms-grow : (vars : ℕ) (start now : List Node) (terms more : List Term) (count : ℕ) (places : List ℕ) → count ≤ length terms → AreLaidTerms vars start now terms count places
    → AreLaidTerms vars start now (terms ++ more) count places
terms-grow vars start now terms more count places h f = record {
  adds = f.adds;
  size = f.size;
  flat = λ k p t e w.
      let l = slice_get_within places k p e in
      let inside : k < length terms = omega (arith, f.size) in
      let there : slice_get terms k ≡ Some t =
      slice_get-get_or terms k t inside ∙ ap (λ x. Some x) (sym (get_or_append_left terms more t k inside) ∙ get_or_from_slice_get (terms ++ more) k t t w) in
      f.flat k p t e there;
  inside = f.inside;
  own = f.own;
}

get-last : (terms : List Term) (term : Term) → slice_get (terms ++ term ∷ []) (length terms) ≡ Some term
get-last [] term = refl
get-last (t ∷ terms) term = get-last terms term

-- one term more of a row
pub row-next : (vars : ℕ) (start now new : List Node) (terms : List Term) (places after : List ℕ) (term : Term) (place : ℕ) → AreLaidTerms vars start now terms (length terms) places
    → IsLaidOut vars now new term place → after ≡ places ++ place ∷ [] → AreLaidTerms vars start new (terms ++ term ∷ []) (length (terms ++ term ∷ [])) after
row-next vars start now new terms places after term place f g same =
    subst (λ n. AreLaidTerms vars start new (terms ++ term ∷ []) n after) (sym (length-append terms (term ∷ [])))
    (laid-next vars start now new (terms ++ term ∷ []) (length terms) places after term place (terms-grow vars start now terms (term ∷ []) (length terms) places (omega arith) f) g
    (get-last terms term) same)

-- a term that was laid out after others is laid out after what they began with
pub laid-after : (vars : ℕ) (start now new : List Node) (term : Term) (place : ℕ) → AddsNodes vars start now → IsLaidOut vars now new term place → IsLaidOut vars start new term place
laid-after vars start now new term place f g = record {
  adds = adds-trans vars start now new f g.adds;
  flat = g.flat;
  own = own-later vars (length now) (length start) place (adds-more vars start now f) g.own;
  last = g.last;
}

-- places stay below a count that grows
pub row-first : (nodes new : List Node) (firsts rest : List ℕ) (first : ℕ) (label : Label) (kids : List ℕ) → new ≡ nodes ++ labelled label kids ∷ [] → firsts ≡ rest ++ first ∷ []
    → All (λ place. place < length nodes) firsts → All (λ place. place < length new) rest
row-first nodes new firsts rest first label kids grown split all =
    let size : length new ≡ length nodes + 1 = ap length grown ∙ length-append nodes (labelled label kids ∷ []) in
    All-weaker (λ place. place < length nodes) (λ place. place < length new) (λ place h. omega arith) rest (All-pop (λ place. place < length nodes) firsts rest (Some first) split all).0

pub row-last : (nodes new : List Node) (last : ℕ) (node : Node) → last ≡ length nodes → new ≡ nodes ++ node ∷ [] → last < length new
row-last nodes new last node e grown = omega (arith, ap length grown, length-append nodes (node ∷ []))

split-last : (terms : List Term) (n : ℕ) → length terms ≡ n + 1 → (rest : List Term) × (term : Term) × (terms ≡ rest ++ term ∷ [])
split-last [] n e = absurd (omega arith)
split-last (t ∷ []) n e = ([], t, refl)
split-last (t ∷ u ∷ terms) n e = let more = split-last (u ∷ terms) (length terms) (omega arith) in (t ∷ more.0, more.1, ap (λ ts. t ∷ ts) more.2)

-- the front of what was laid out
front-laid : (vars : ℕ) (start now : List Node) (rest : List Term) (term : Term) (firsts places : List ℕ) (first : ℕ)
    → AreLaidTerms vars start now (rest ++ term ∷ []) (length (rest ++ term ∷ [])) firsts → firsts ≡ places ++ first ∷ []
    → AreLaidTerms vars start now rest (length rest) places × IsFlatTerm now first term × (first < length now) × IsOwnPlace vars (length start) first
front-laid vars start now rest term firsts places first f same =
    let inside = All-pop (λ place. place < length now) firsts places (Some first) same f.inside in
    let own = All-pop (IsOwnPlace vars (length start)) firsts places (Some first) same f.own in
    let size : length places ≡ length rest = omega (arith, f.size, ap length same, length-append places (first ∷ []), length-append rest (term ∷ [])) in (
      record {
        adds = f.adds;
        size = size;
        flat = λ k p t e w.
            let l = slice_get_within places k p e in
            let m = slice_get_within rest k t w in
            let left : slice_get firsts k ≡ Some p =
            slice_get-get_or firsts k 0 (omega (arith, ap length same, length-append places (first ∷ [])))
            ∙ ap (λ x. Some x) (ap (λ ns. get_or ns k 0) same ∙ get_or_append_left places (first ∷ []) 0 k l ∙ get_or_from_slice_get places k p 0 e) in
            let right : slice_get (rest ++ term ∷ []) k ≡ Some t =
            slice_get-get_or (rest ++ term ∷ []) k t (omega (arith, length-append rest (term ∷ []))) ∙ ap (λ x. Some x) (get_or_append_left rest (term ∷ []) t k m ∙ get_or_from_slice_get rest k t t w) in
            f.flat k p t left right;
        inside = inside.0;
        own = own.0;
      },
      f.flat (length places) first term (ap (λ ns. slice_get ns (length places)) same ∙ at-end places) (ap (slice_get (rest ++ term ∷ [])) size ∙ get-last rest term),
      inside.1,
      own.1,
    )
  where
    at-end : (ns : List ℕ) → slice_get (ns ++ first ∷ []) (length ns) ≡ Some first
    at-end [] = refl
    at-end (n ∷ ns) = at-end ns

-- a node for the last two
dot-laid : (vars : ℕ) (start now : List Node) (left right : Term) (first last : ℕ) → IsFlatTerm now first left → first < length now → IsOwnPlace vars (length start) first
    → IsLaidOut vars start now right last → IsLaidOut vars start (now ++ labelled label.Dot (first ∷ last ∷ []) ∷ []) (Dot left right) (length now)
dot-laid vars start now left right first last flat inside own g =
    laid-node vars start now (left ∷ right ∷ []) (first ∷ last ∷ []) label.Dot (Dot left right) (record {
      adds = g.adds;
      size = refl;
      flat = both;
      inside = All-cons (λ p. p < length now) first (last ∷ []) inside (All-cons (λ p. p < length now) last [] g.flat.inside (All-nil (λ p. p < length now)));
      own = All-cons (IsOwnPlace vars (length start)) first (last ∷ []) own (All-cons (IsOwnPlace vars (length start)) last [] g.own (All-nil (IsOwnPlace vars (length start))));
    }) (label-Dot left right) (arguments-Dot left right) refl
  where
    both : (k place : ℕ) (term : Term) → slice_get (first ∷ last ∷ []) k ≡ Some place → slice_get (left ∷ right ∷ []) k ≡ Some term → IsFlatTerm now place term
    both zero place term e f = subst (λ p. IsFlatTerm now p term) (same_Some first place e) (subst (IsFlatTerm now first) (same_Some left term f) flat)
    both (suc zero) place term e f = subst (λ p. IsFlatTerm now p term) (same_Some last place e) (subst (IsFlatTerm now last) (same_Some right term f) g.flat)
    both (suc (suc k)) place term e f = absurd (none-some place e)

-- terms that are laid out stay so as nodes are added
kept-laid : (vars : ℕ) (start now new added : List Node) (terms : List Term) (count : ℕ) (places : List ℕ) → AreLaidTerms vars start now terms count places → AddsNodes vars start new → new ≡ now ++ added
    → AreLaidTerms vars start new terms count places
kept-laid vars start now new added terms count places f a grown = record {
  adds = a;
  size = f.size;
  flat = λ k p t e w. rw grown (flat-kept vars now added f.adds.layout p t (f.flat k p t e w));
  inside = All-weaker (λ p. p < length now) (λ p. p < length new) (λ p h. omega (arith, ap length grown, length-append now added)) places f.inside;
  own = f.own;
}

-- one dot more
pub row-step : (vars : ℕ) (start now new : List Node) (firsts rest : List ℕ) (first last at : ℕ) (terms : List Term) (term : Term) → at ≡ length now
    → new ≡ now ++ labelled label.Dot (first ∷ last ∷ []) ∷ [] → firsts ≡ rest ++ first ∷ [] → IsDotRow vars start now terms term firsts last → IsDotRow vars start new terms term rest at
row-step vars start now new firsts rest first last at terms term e grown split row =
    let size : length row.rest ≡ length rest + 1 = sym row.laid.size ∙ ap length split ∙ length-append rest (first ∷ []) in
    let apart = split-last row.rest (length rest) size in
    let laid : AreLaidTerms vars start now (apart.0 ++ apart.1 ∷ []) (length (apart.0 ++ apart.1 ∷ [])) firsts = subst (λ xs. AreLaidTerms vars start now xs (length xs) firsts) apart.2 row.laid in
    let f = front-laid vars start now apart.0 apart.1 firsts rest first laid split in
    let dot = dot-laid vars start now apart.1 row.whole first last f.1 f.2 f.3 row.ends in
    let made : IsLaidOut vars start new (Dot apart.1 row.whole) at = rw (grown, e) dot in
    record {
      rest = apart.0;
      whole = Dot apart.1 row.whole;
      laid = kept-laid vars start now new (labelled label.Dot (first ∷ last ∷ []) ∷ []) apart.0 (length apart.0) rest f.0 made.adds grown;
      ends = made;
      row = sym (dots-push apart.0 apart.1 row.whole) ∙ ap (λ xs. dots xs row.whole) (sym apart.2) ∙ row.row;
    }

pub row-starts : (vars : ℕ) (start now : List Node) (terms : List Term) (term : Term) (firsts : List ℕ) (last : ℕ) → AreLaidTerms vars start now terms (length terms) firsts
    → IsLaidOut vars start now term last → IsDotRow vars start now terms term firsts last
row-starts vars start now terms term firsts last f g = record { rest = terms; whole = term; laid = f; ends = g; row = refl }

-- nothing is left of the row
pub row-end : (vars : ℕ) (start now : List Node) (firsts : List ℕ) (last : ℕ) (terms : List Term) (term : Term) → length firsts ≡ 0 → IsDotRow vars start now terms term firsts last
    → IsLaidOut vars start now (dots terms term) last
row-end vars start now firsts last terms term none row = subst (λ t. IsLaidOut vars start now t last) (go row.rest (omega (arith, row.laid.size)) ∙ row.row) row.ends
  where
    go : (rest : List Term) → length rest ≡ 0 → row.whole ≡ dots rest row.whole
    go [] e = refl
    go (t ∷ rest) e = absurd (omega arith)

-- a label over terms that are laid out
pub laid-over : (vars : ℕ) (start nodes new : List Node) (term : Term) (label : Label) (terms : List Term) (places kids : List ℕ) (place : ℕ) → AreLaidTerms vars start nodes terms (length terms) places
    → kids ≡ places → label_of_term term ≡ Some label → arguments_of term ≡ terms → length terms ≡ arity_of label → new ≡ nodes ++ labelled label kids ∷ [] → place ≡ length nodes
    → IsLaidOut vars start new term place
laid-over vars start nodes new term label terms places kids place f same is are size grown at =
    let made = laid-node vars start nodes terms places label term f is are size in
    let list : new ≡ nodes ++ labelled label places ∷ [] = grown ∙ ap (λ ks. nodes ++ labelled label ks ∷ []) same in
    rw (list, at) made

-- a term without arguments
pub laid-leaf : (vars : ℕ) (nodes new : List Node) (term : Term) (label : Label) (kids : List ℕ) (place : ℕ) → IsLayout vars nodes → kids ≡ [] → label_of_term term ≡ Some label → arguments_of term ≡ []
    → 0 ≡ arity_of label → new ≡ nodes ++ labelled label kids ∷ [] → place ≡ length nodes → IsLaidOut vars nodes new term place
laid-leaf vars nodes new term label kids place layout same is are size grown at =
    laid-over vars nodes nodes new term label [] [] kids place (none-laid vars nodes [] layout) same is are size grown at

pub laid-name : (vars : ℕ) (start nodes new : List Node) (term : Term) (name : NameId) (terms : List Term) (arity : ℕ) (places kids : List ℕ) (place : ℕ) → AreLaidTerms vars start nodes terms (length terms) places
    → kids ≡ places → term ≡ Name name terms → arity ≡ length terms → new ≡ nodes ++ labelled (label.Name name arity) kids ∷ [] → place ≡ length nodes → IsLaidOut vars start new term place
laid-name vars start nodes new term name terms arity places kids place f same is size grown at =
    laid-over vars start nodes new term (label.Name name arity) terms places kids place f same
    (ap label_of_term is ∙ label-Name name terms ∙ ap (λ n. Some (label.Name name n)) (sym size)) (ap arguments_of is ∙ arguments-Name name terms) (sym size) grown at

pub laid-tuple : (vars : ℕ) (start nodes new : List Node) (term : Term) (terms : List Term) (arity : ℕ) (places kids : List ℕ) (place : ℕ) → AreLaidTerms vars start nodes terms (length terms) places
    → kids ≡ places → term ≡ Tup terms → arity ≡ length terms → new ≡ nodes ++ labelled (label.Tup arity) kids ∷ [] → place ≡ length nodes → IsLaidOut vars start new term place
laid-tuple vars start nodes new term terms arity places kids place f same is size grown at =
    laid-over vars start nodes new term (label.Tup arity) terms places kids place f same
    (ap label_of_term is ∙ label-Tup terms ∙ ap (λ n. Some (label.Tup n)) (sym size)) (ap arguments_of is ∙ arguments-Tup terms) (sym size) grown at

pub laid-integer : (vars : ℕ) (nodes new : List Node) (term : Term) (n found : ℤ) (kids : List ℕ) (place : ℕ) → found ≡ n → IsLayout vars nodes → kids ≡ [] → term ≡ Int n
    → new ≡ nodes ++ labelled (label.Int found) kids ∷ [] → place ≡ length nodes → IsLaidOut vars nodes new term place
laid-integer vars nodes new term n found kids place e layout same is grown at =
    laid-leaf vars nodes new term (label.Int found) kids place layout same (ap label_of_term is ∙ label-Int n ∙ ap (λ z. Some (label.Int z)) (sym e)) (ap arguments_of is ∙ arguments-Int n) refl grown at

pub laid-string : (vars : ℕ) (nodes new : List Node) (term : Term) (name : NameId) (kids : List ℕ) (place : ℕ) → IsLayout vars nodes → kids ≡ [] → term ≡ Str name
    → new ≡ nodes ++ labelled (label.Str name) kids ∷ [] → place ≡ length nodes → IsLaidOut vars nodes new term place
laid-string vars nodes new term name kids place layout same is grown at =
    laid-leaf vars nodes new term (label.Str name) kids place layout same (ap label_of_term is ∙ label-Str name) (ap arguments_of is ∙ arguments-Str name) refl grown at

-- a variable, which is there
pub laid-var : (vars : ℕ) (nodes : List Node) (term : Term) (x : ℕ) → IsLayout vars nodes → term ≡ Var x → All (IsRulePart vars) (parts_of term) → IsLaidOut vars nodes nodes term x
laid-var vars nodes term x layout is parts =
    let part : IsRulePart vars (Var x) = subst (IsRulePart vars) is (own-part (IsRulePart vars) term parts) in
    rw is (laid-variable vars nodes x (Var x) layout (All-head (λ n. n < vars) x [] part.known) (label-Var x) (λ trees path. tree-Var trees x path))

-- a row of dots that is laid out after its terms
pub dots-laid : (vars : ℕ) (start now new end : List Node) (terms : List Term) (firsts : List ℕ) (last place : ℕ) (term whole : Term) → AreLaidTerms vars start now terms (length terms) firsts
    → IsLaidOut vars now new term last → IsRowLaid new end firsts last place → dots terms term ≡ whole → IsLaidOut vars start end whole place
dots-laid vars start now new end terms firsts last place term whole f g row e =
    let kept = kept-laid vars start now new g.adds.added terms (length terms) firsts f (adds-trans vars start now new f.adds g.adds) g.adds.new_is in
    subst (λ t. IsLaidOut vars start end t place) e (row vars start terms term kept (laid-after vars start now new term last f.adds g))

-- where the places of a row are
pub row-inside : (vars : ℕ) (start now new : List Node) (terms : List Term) (firsts : List ℕ) → AreLaidTerms vars start now terms (length terms) firsts → AddsNodes vars now new → All (λ place. place < length new) firsts
row-inside vars start now new terms firsts f a = All-weaker (λ p. p < length now) (λ p. p < length new) (λ p h. omega (arith, adds-more vars now new a)) firsts f.inside

-- a part of a tuple or name is short enough to be counted
pub name-fits : (vars : ℕ) (term : Term) (name : NameId) (terms : List Term) → term ≡ Name name terms → All (IsRulePart vars) (parts_of term) → length terms < 2 ^ 32
name-fits vars term name terms is parts = short-name name terms (subst (λ t. HasShortList t) is (own-part (IsRulePart vars) term parts).short)

pub tuple-fits : (vars : ℕ) (term : Term) (terms : List Term) → term ≡ Tup terms → All (IsRulePart vars) (parts_of term) → length terms < 2 ^ 32
tuple-fits vars term terms is parts = short-tuple terms (subst (λ t. HasShortList t) is (own-part (IsRulePart vars) term parts).short)
