use Rattle.std.proofs.Common.{ℕ, suc, List, take, drop, All, Contains, subst, sym, ◌∙◌, ◌+◌}
use Rattle.std.specs.List.{remove}
use Rattle.std.proofs.lemmas.List.Elements.{All-append}
use Rattle.mars_base.proofs.ListFacts.{All-get, All-from_gets, get-take, get-drop}
use Rattle.mars_rows.proofs.store.Rows.unpin.Goals as goal

All-remove : (P : ℕ × ℕ → Type 0) (xs : List (ℕ × ℕ)) (i : ℕ) → All P xs → All P (remove xs i)
All-remove P xs i all =
    All-append P (take i xs) (drop (suc i) xs)
    (All-from_gets P (take i xs) (λ k x e. All-get P xs k x all (get-take i xs k x e).1))
    (All-from_gets P (drop (suc i) xs) (λ k x e. All-get P xs (suc i + k) x all (sym (get-drop (suc i) xs k) ∙ e)))

pub invariant_of-self : goal.invariant_of-self
invariant_of-self c =
    let p = c.self.inside in
    let i = c.self.invariant in
    record {
      stock = i.stock;
      indexed = i.indexed;
      below = i.below;
      pinned = subst (All (λ (pin : ℕ × ℕ). Contains p.stock.numbers.items pin.1)) (sym c.remove.ensures.items) (All-remove (λ (pin : ℕ × ℕ). Contains p.stock.numbers.items pin.1) p.pins.items c.pin_place-place.result i.pinned);
      within = i.within;
      fits = i.fits;
      trees = i.trees;
      small = i.small;
    }
