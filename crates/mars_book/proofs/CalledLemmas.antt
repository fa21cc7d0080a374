-- What a call of the table, in turn, makes of the pass that makes it.
use Rattle.std.proofs.Common.{◌≡◌, ℕ, List, [], ◌∷◌, ◌++◌, length, Some, None, Result, Ok, Err, IfOk, OnErr, sym, subst, ap, ◌∙◌, arith, inl, inr, length-append}
use Rattle.std.proofs.lemmas.List.{append_cancel_left}
use mathlib.Core.List.{IsPrefix}
use Rattle.mars_base.specs.declared.no_memory.NoMemory.{NoMemory}
use Rattle.mars_turn.specs.declared.pass_view.PassView.{PassView}
use Rattle.mars_turn.specs.Steps.{inside_view, Leaves}
use Rattle.mars_table.specs.declared.entry.Call.{Call}
use Rattle.mars_table.specs.declared.entry.Entry.{Entry}
use Rattle.mars_table.specs.declared.entry.Reply.{Reply}
use Rattle.mars_table.specs.Calls.{IsReply}
use Rattle.mars_table.specs.History.{after_history, call_entry}
use Rattle.mars_table.specs.TableSeen.{TableSeen, Applied}
use Rattle.mars_book.specs.PassSeen.{PassSeen, knowing}
use Rattle.mars_book.specs.BookCalls.{Called, with_call}

-- the caller of an entry
abbrev pub entry_by : Entry → ℕ
entry_by e = e.who

some_one : {A : Type 0} (x y : A) → Some x ≡ Some y → x ≡ y
some_one x y e = cc

none_some : {A : Type 0} (x : A) → None ≡ Some x → ⊥
none_some x e = cc

first_one : (x y : Entry) → x ∷ [] ≡ y ∷ [] → x ≡ y
first_one x y e = cc

not_longer : (l : List Entry) (x : Entry) → l ≡ l ++ x ∷ [] → ⊥
not_longer l x e = absurd (omega (arith, length-append l (x ∷ []), ap length e))

module _ (v : PassView Entry) (l : List Entry) where
  -- the pass found `l`; with the list as it was found it is as before
  pub left_same : (w : PassView Entry) → v.entered ≡ None → Leaves entry_by (inside_view v l) l w → w ≡ v
  left_same w out (inl same) = same.1 ∙ ap (λ o. record v { entered = o }) (sym out)
  left_same w out (inr (x, more, new)) =
      let found : l ≡ more.found = some_one l more.found more.entered in
      absurd (not_longer l x (more.longer ∙ ap (λ xs. xs ++ x ∷ []) (sym found)))

  -- with one entry more it has made that entry, and seen the whole list
  pub left_more : (w : PassView Entry) (e : Entry) → v.entered ≡ None → Leaves entry_by (inside_view v l) (l ++ e ∷ []) w →
      w ≡ record v { mine = v.mine ++ e ∷ []; seen = l ++ e ∷ [] }
  left_more w e out (inl same) = absurd (not_longer l e (some_one l (l ++ e ∷ []) same.0))
  left_more w e out (inr (x, more, new)) =
      let found : l ≡ more.found = some_one l more.found more.entered in
      let ends : l ++ e ∷ [] ≡ l ++ x ∷ [] = more.longer ∙ ap (λ xs. xs ++ x ∷ []) (sym found) in
      let one : x ≡ e = sym (first_one e x (append_cancel_left l (e ∷ []) (x ∷ []) ends)) in
      new ∙ ap (λ (y : Entry). record v { entered = None; mine = v.mine ++ y ∷ []; seen = l ++ e ∷ [] }) one ∙ ap (λ o. record v { entered = o; mine = v.mine ++ e ∷ []; seen = l ++ e ∷ [] }) (sym out)

module _ (pass new : PassSeen) (turn : new.turn ≡ pass.turn) (before after : TableSeen) (who : ℕ) (call : Call) (out : pass.view.entered ≡ None) (limit : before.cap ≡ pass.view.fixed)
    (first : IsPrefix pass.view.seen before.history) (same : who ≡ pass.view.number) (leaves : Leaves entry_by (inside_view pass.view before.history) after.history new.view) where
  -- only what it knows is new
  known : new ≡ knowing pass new.view
  known = ap (λ t. record { turn = t; view = new.view }) turn

  answered : (reply : Reply) → Applied before who call reply after → Called pass call reply new
  answered reply applied =
      let e : Entry = call_entry who call reply in
      let all : before.history ≡ pass.view.seen ++ first.0 = sym first.1 in
      let left : new.view ≡ record pass.view { mine = pass.view.mine ++ e ∷ []; seen = before.history ++ e ∷ [] } =
      left_more pass.view before.history new.view e out (subst (λ (xs : List Entry). Leaves entry_by (inside_view pass.view before.history) xs new.view) (ap (λ (t : TableSeen). t.history) applied.is_new) leaves) in
      record {
        between = first.0;
        is_reply = subst (λ (xs : List Entry). IsReply (after_history pass.view.fixed xs) call reply) all (subst (λ (k : ℕ). IsReply (after_history k before.history) call reply) limit applied.is_reply);
        is_new = known
            ∙ ap (knowing pass) left
            ∙ ap (λ (xs : List Entry). knowing pass (record pass.view { mine = pass.view.mine ++ e ∷ []; seen = xs ++ e ∷ [] })) all
            ∙ ap (λ (k : ℕ). with_call pass first.0 (call_entry k call reply)) same;
      }

  -- with a reply the call was made
  pub called : (result : Result Reply NoMemory) → IfOk result (λ reply. Applied before who call reply after) → IfOk result (λ reply. Called pass call reply new)
  called (Ok reply) ok = answered reply ok
  called (Err e) ok = tt

  -- out of memory the pass is as before
  pub as_before : (result : Result Reply NoMemory) → OnErr result (after ≡ before) → OnErr result (new ≡ pass)
  as_before (Ok reply) err = tt
  as_before (Err e) err =
      known ∙ ap (knowing pass) (left_same pass.view before.history new.view out (subst (λ (xs : List Entry). Leaves entry_by (inside_view pass.view before.history) xs new.view) (ap (λ (t : TableSeen). t.history) err) leaves))
