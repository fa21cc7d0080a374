use Rattle.std.proofs.Common.{◌≡◌, ◌+◌, ◌++◌, ◌∷◌, [], ℕ, List, take, sym, ap, ◌∙◌, append-nil}
use Rattle.std.proofs.lemmas.Grind.{flat_map-append}
use Rattle.std.specs.List.{flat_map, fold}
use Rattle.std.specs.Hash.{HashWrites, slice, u8, fed_then}
use Rattle.mars_base.proofs.ListFacts.{take-next}
use Rattle.mars_tree.proofs.names.equality.NamesHash.hash.Goals as goal

-- the writes of one text more
one_more : (names : List (List ℕ)) (k : ℕ) (text : List ℕ) → take (k + 1) names ≡ take k names ++ text ∷ [] → flat_map (slice u8) (take (k + 1) names) ≡ flat_map (slice u8) (take k names) ++ slice u8 text
one_more names k text e =
    ap (flat_map (slice u8)) e ∙ flat_map-append (slice u8) (take k names) (text ∷ []) ∙ ap (λ (w : HashWrites). flat_map (slice u8) (take k names) ++ w) (append-nil (slice u8 text))

pub loop-place-preserved : goal.loop-place-preserved
loop-place-preserved g c =
    let names : List (List ℕ) = c.args.self.now in
    let text : List ℕ = c.text.result.now in
    let k : ℕ = c.loop-place.place in
    fed_then g.H.Hasher.write c.write_usize.new.self c.loop-place.state c.hash.new.state (flat_map (slice u8) (take k names)) (slice u8 text) c.loop-place.invariant c.hash.ensures
    ∙ ap (fold g.H.Hasher.write c.write_usize.new.self) (sym (one_more names k text (take-next names k text c.text.ensures)))
