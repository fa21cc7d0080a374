-- Rows of dots, as they are written from the last dot up.
use Rattle.std.proofs.Common.{◌≡◌, ℕ, ◌<◌, List, [], ◌∷◌, ◌++◌, length, length-append, Some, All, refl, sym, ap, ◌∙◌, subst, arith}
use Rattle.std.proofs.lemmas.List.Elements.{All-cons, All-nil, All-pop}
use Rattle.mars_tree.specs.declared.label.Label.TheVariants as label
use Rattle.mars_tree.specs.Graph.{labelled}
use Rattle.mars_store.specs.System.{System, with_node}
use Rattle.mars_term.specs.declared.term.Term.{Term, Dot}
use Rattle.mars_term.specs.Rows.{dots}
use Rattle.mars_term.proofs.RowLemmas.{dots-push}
use Rattle.mars_rules.specs.PairedLists.{AllPaired}
use Rattle.mars_rules.proofs.TermFacts.{label-Dot, arguments-Dot}
use Rattle.mars_start.specs.WritingInside.{HasNames, HasMoreNodes, ShowsTerm, IsTermWritten, AreTermsWritten, IsRowLeft, IsRowWritten}
use Rattle.mars_start.proofs.Growing.{inside-grows, more-trans, more-node, names-grow, terms-grow}
use Rattle.mars_start.proofs.WrittenTerms.{label-written}

-- paired lists, of which one ends with an item
paired-split : {X Y : Type 0} (R : X → Y → Type 0) (xs : List X) (ys : List Y) (y : Y) → AllPaired R xs (ys ++ y ∷ []) → (zs : List X) × (z : X) × (xs ≡ zs ++ z ∷ []) × AllPaired R zs ys × R z y
paired-split R [] [] y h = absurd h
paired-split R [] (b ∷ ys) y h = absurd h
paired-split R (a ∷ []) [] y h = ([], a, refl, tt, h.0)
paired-split R (a ∷ c ∷ xs) [] y h = absurd h.1
paired-split R (a ∷ xs) (b ∷ ys) y h = let rest = paired-split R xs ys y h.1 in (a ∷ rest.0, rest.1, ap (λ zs. a ∷ zs) rest.2, (h.0, rest.3), rest.4)

-- a dot's node, over nodes of the store
module _ (start now : System) (first last : ℕ) (more : HasMoreNodes start now) (first_in : first < length now.nodes) (last_in : last < length now.nodes) where
  abbrev made : System
  made = with_node now (labelled label.Dot (first ∷ last ∷ []))

  pub dot-fits : All (λ n. n < length now.nodes) (first ∷ last ∷ [])
  dot-fits = All-cons (λ n. n < length now.nodes) first (last ∷ []) first_in (All-cons (λ n. n < length now.nodes) last [] last_in (All-nil (λ n. n < length now.nodes)))

  one-more : HasMoreNodes now made
  one-more = more-node now (labelled label.Dot (first ∷ last ∷ [])) more.system (record { kids = refl; in_range = dot-fits })

  pub dot-more : HasMoreNodes start made
  dot-more = more-trans start now made more one-more

  -- the last first term and the whole are the kids
  pub row-step : (vars kept : List ℕ) (terms : List Term) (term : Term) (firsts rest : List ℕ) → HasNames start vars kept → firsts ≡ rest ++ first ∷ []
      → IsRowLeft now vars kept terms term firsts last → IsRowLeft made vars kept terms term rest (length now.nodes)
  row-step vars kept terms term firsts rest names split row =
      let here = names-grow start now vars kept names more in
      let parts = paired-split (ShowsTerm now vars kept) row.rest rest first (subst (AllPaired (ShowsTerm now vars kept) row.rest) split row.firsts_are) in
      let dot =
      label-written now vars kept (Dot parts.1 row.whole) label.Dot (parts.1 ∷ row.whole ∷ []) (first ∷ last ∷ []) here (parts.4, (row.last_is, tt)) (label-Dot parts.1 row.whole) (arguments-Dot parts.1 row.whole) refl in
      record {
        rest = parts.0;
        whole = Dot parts.1 row.whole;
        firsts_are = terms-grow now made more.system one-more.goes.grows vars kept here parts.0 rest parts.3;
        last_is = dot.shows;
        row = sym (dots-push parts.0 parts.1 row.whole) ∙ ap (λ xs. dots xs row.whole) (sym parts.2) ∙ row.row;
      }

pub row-starts : (s : System) (vars kept : List ℕ) (terms : List Term) (term : Term) (firsts : List ℕ) (last : ℕ) → AllPaired (ShowsTerm s vars kept) terms firsts → ShowsTerm s vars kept term last
    → IsRowLeft s vars kept terms term firsts last
row-starts s vars kept terms term firsts last f g = record { rest = terms; whole = term; firsts_are = f; last_is = g; row = refl }

-- nothing is left of the row
pub row-ends : (s : System) (vars kept : List ℕ) (terms : List Term) (term : Term) (firsts : List ℕ) (last : ℕ) → length firsts ≡ 0 → IsRowLeft s vars kept terms term firsts last
    → ShowsTerm s vars kept (dots terms term) last
row-ends s vars kept terms term firsts last none row = subst (λ t. ShowsTerm s vars kept t last) (go row.rest firsts none row.firsts_are ∙ row.row) row.last_is
  where
    go : (rest : List Term) (firsts : List ℕ) → length firsts ≡ 0 → AllPaired (ShowsTerm s vars kept) rest firsts → row.whole ≡ dots rest row.whole
    go [] firsts e h = refl
    go (t ∷ rest) [] e h = absurd h
    go (t ∷ rest) (n ∷ firsts) e h = absurd (omega arith)

-- a row of dots that is written after its terms
pub dots-written : (old now new end : System) (vars kept : List ℕ) (terms : List Term) (firsts : List ℕ) (term whole : Term) (last n : ℕ) → HasNames old vars kept
    → AreTermsWritten old now vars kept terms firsts → IsTermWritten now new vars kept term last → IsRowWritten new end firsts last n → dots terms term ≡ whole → IsTermWritten old end vars kept whole n
dots-written old now new end vars kept terms firsts term whole last n names f g row e =
    let here = names-grow old now vars kept names f.more in
    let there = names-grow now new vars kept here g.more in
    record {
      more = more-trans old new end (more-trans old now new f.more g.more) row.more;
      shows = subst (λ t. ShowsTerm end vars kept t n) e
          (row.shows vars kept terms term there (terms-grow now new f.more.system g.more.goes.grows vars kept here terms firsts f.shows) g.shows);
    }

-- one dot more
pub record IsRowNext (start now new : System) (firsts rest : List ℕ) (last n : ℕ) : Type 0 where
  pub more : HasMoreNodes start new
  pub inside : All (λ n. n < length new.nodes) rest
  pub last_in : n < length new.nodes
  pub row : (vars kept : List ℕ) (terms : List Term) (term : Term) → HasNames start vars kept → IsRowLeft now vars kept terms term firsts last → IsRowLeft new vars kept terms term rest n

pub row-next : (start now new : System) (firsts rest : List ℕ) (first last n : ℕ) → HasMoreNodes start now → All (λ n. n < length now.nodes) firsts → last < length now.nodes → firsts ≡ rest ++ first ∷ []
    → new ≡ with_node now (labelled label.Dot (first ∷ last ∷ [])) → n ≡ length now.nodes → IsRowNext start now new firsts rest last n
row-next start now new firsts rest first last n more inside last_in split made at =
    let parts = All-pop (λ n. n < length now.nodes) firsts rest (Some first) split inside in
    let grows = (one-more start now first last more parts.1 last_in).goes.grows in
    rw (made, at) (record {
      more = dot-more start now first last more parts.1 last_in;
      inside = inside-grows now (with_node now (labelled label.Dot (first ∷ last ∷ []))) grows rest parts.0;
      last_in = omega (arith, length-append now.nodes (labelled label.Dot (first ∷ last ∷ []) ∷ []));
      row = λ vars kept terms term names row. row-step start now first last more parts.1 last_in vars kept terms term firsts rest names split row;
    })
