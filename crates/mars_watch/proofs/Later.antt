-- Lines that were changed, and undone.
use Rattle.std.proofs.Common.{◌≡◌, ℕ, ◌+◌, ◌-◌, ◌≤◌, List, ◌∷◌, length, take, refl, sym, ap, ◌∙◌, arith}
use Rattle.std.proofs.lemmas.List.{take-take}
use Rattle.mars_watch.specs.Lined.{Lined, back, line_undone, line_with, IsLaterLine}
use Rattle.mars_watch.proofs.Lines.{back-back}

-- undone to all its changes, a line is as it is
pub line-same : {X : Type 0} (line : Lined X) → line_undone line (length line.past) ≡ line
line-same {X} line = let e : length line.past - length line.past ≡ 0 = omega arith in ap (λ n. back n line.now line.past) e

-- undone twice, as undone to the earlier mark
pub line-twice : {X : Type 0} (line : Lined X) (outer inner : ℕ) → outer ≤ inner → inner ≤ length line.past
    → (line_undone (line_undone line inner) outer ≡ line_undone line outer) × (length (line_undone line inner).past ≡ inner)
line-twice {X} line outer inner h k =
    let n : ℕ = length line.past - inner in
    let w : Lined X = back n line.now line.past in
    let size = (back-back n 0 line.now line.past (omega arith)).1 in
    let is : length w.past ≡ inner = omega arith in
    let both = (back-back n (inner - outer) line.now line.past (omega arith)).0 in
    let sum : n + (inner - outer) ≡ length line.past - outer = omega arith in
    (ap (λ m. back (m - outer) w.now w.past) is ∙ both ∙ ap (λ m. back m line.now line.past) sum, is)

pub later-same : {X : Type 0} (line : Lined X) → IsLaterLine line line
later-same line = record { more = omega arith; undone = line-same line }

-- one change more
pub later-change : {X : Type 0} (old new : Lined X) → new.past ≡ old.now ∷ old.past → IsLaterLine old new
later-change {X} old new e =
    let one : length new.past - length old.past ≡ 1 = omega (arith, ap length e) in
    record {
      more = omega (arith, ap length e);
      undone = ap (λ n. back n new.now new.past) one ∙ ap (λ past. back 1 new.now past) e;
    }

pub later-with : {X : Type 0} (line : Lined X) (x : X) → IsLaterLine line (line_with line x)
later-with line x = later-change line (line_with line x) refl

-- a line that was changed, undone to its changes before
pub later-kept : {X : Type 0} (old new : Lined X) (mark : ℕ) → IsLaterLine old new → mark ≤ length old.past → line_undone new mark ≡ line_undone old mark
later-kept old new mark l h =
    let more = l.more in
    sym (line-twice new mark (length old.past) h more).0 ∙ ap (λ w. line_undone w mark) l.undone

pub later-then : {X : Type 0} (a b c : Lined X) → IsLaterLine a b → IsLaterLine b c → IsLaterLine a c
later-then a b c f g = record {
  more = omega (arith, f.more, g.more);
  undone = later-kept b c (length a.past) g f.more ∙ f.undone;
}

pub front-take : (n : ℕ) (old new : List (ℕ × ℕ)) → n ≤ length old → take (length old) new ≡ old → take n new ≡ take n old
front-take n old new h e = sym (take-take n (length old) new h) ∙ ap (take n) e

-- lines in step stay in step where they are undone
pub undone-in-step : {X Y : Type 0} (a : Lined X) (b : Lined Y) (mark : ℕ) → mark ≤ length a.past → mark ≤ length b.past → length (line_undone a mark).past ≡ length (line_undone b mark).past
undone-in-step a b mark h k = (line-twice a 0 mark (omega arith) h).1 ∙ sym (line-twice b 0 mark (omega arith) k).1

-- one change that is undone
pub undone-change : {X : Type 0} (line changed undone : Lined X) (changes : ℕ) → changed.past ≡ line.now ∷ line.past → changes ≡ length line.past → undone ≡ line_undone changed changes → undone ≡ line
undone-change line changed undone changes e n u = u ∙ ap (λ m. line_undone changed m) n ∙ (later-change line changed e).undone
