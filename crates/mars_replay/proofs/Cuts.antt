-- Which of several sessions were cut, and what they wrote.
use Rattle.std.proofs.Common.{◌≡◌, ℕ, zero, suc, List, [], ◌∷◌, ◌++◌, map, refl, ap, sym, ◌∙◌}
use Rattle.std.specs.Prelude.{Some, None, slice_get, true, false, Bool, ◌||◌, if◌then◌else◌}
use Rattle.std.specs.List.{flat_map, list_any}
use Rattle.mars_session.specs.SessionSeen.{SessionSeen, session_text}
use Rattle.mars_session.specs.Together.{cut_of}

-- whether a session was cut, and at which command
cut_place : (b : Bool) (d j : ℕ) → (if b then Some d else None) ≡ Some j → b ≡ true
cut_place true d j e = refl
cut_place false d j e = absurd (cc e)

pub cut_told : (sessions : List SessionSeen) (i j : ℕ) → slice_get (map cut_of sessions) i ≡ Some (Some j) → list_any (λ (s : SessionSeen). s.cut) sessions ≡ true
cut_told [] i j e = absurd (cc e)
cut_told (s ∷ sessions) zero j e =
    let here : cut_of s ≡ Some j = (cc e) in
    any_first s.cut (list_any (λ (s : SessionSeen). s.cut) sessions) (cut_place s.cut s.point.done j here)
  where
    any_first : (b c : Bool) → b ≡ true → (b || c) ≡ true
    any_first true c e = refl
    any_first false c e = absurd (cc e)
cut_told (s ∷ sessions) (suc i) j e = any_next s.cut (list_any (λ (s : SessionSeen). s.cut) sessions) (cut_told sessions i j e)
  where
    any_next : (b c : Bool) → c ≡ true → (b || c) ≡ true
    any_next true c e = refl
    any_next false c e = e

pub cut_found : (sessions : List SessionSeen) → list_any (λ (s : SessionSeen). s.cut) sessions ≡ true → (i : ℕ) × (j : ℕ) × (slice_get (map cut_of sessions) i ≡ Some (Some j))
cut_found [] e = absurd (cc e)
cut_found (s ∷ sessions) e = by s sessions s.cut refl e (cut_found sessions)
  where
    by : (s : SessionSeen) (sessions : List SessionSeen) (b : Bool) → s.cut ≡ b → list_any (λ (s : SessionSeen). s.cut) (s ∷ sessions) ≡ true → (list_any (λ (s : SessionSeen). s.cut) sessions ≡ true → (i : ℕ) × (j : ℕ) × (slice_get (map cut_of sessions) i ≡ Some (Some j))) → (i : ℕ) × (j : ℕ) × (slice_get (map cut_of (s ∷ sessions)) i ≡ Some (Some j))
    by s sessions true is e more = (0, s.point.done, ap (λ (b : Bool). Some (if b then Some s.point.done else None)) is)
    by s sessions false is e more = let m = more (sym (ap (λ (b : Bool). b || list_any (λ (s : SessionSeen). s.cut) sessions) is) ∙ e) in (suc m.0, m.1, m.2)

pub uncut_all : (sessions : List SessionSeen) → list_any (λ (s : SessionSeen). s.cut) sessions ≡ false → (i : ℕ) (s : SessionSeen) → slice_get sessions i ≡ Some s → s.cut ≡ false
uncut_all [] e i s is = absurd (cc is)
uncut_all (x ∷ sessions) e i s is = by x sessions i s x.cut refl e is (λ none k. uncut_all sessions none k s)
  where
    by : (x : SessionSeen) (sessions : List SessionSeen) (i : ℕ) (s : SessionSeen) (b : Bool) → x.cut ≡ b → list_any (λ (s : SessionSeen). s.cut) (x ∷ sessions) ≡ false → slice_get (x ∷ sessions) i ≡ Some s → (list_any (λ (s : SessionSeen). s.cut) sessions ≡ false → (k : ℕ) → slice_get sessions k ≡ Some s → s.cut ≡ false) → s.cut ≡ false
    by x sessions i s true is e at more = absurd (cc (e, ap (λ (b : Bool). b || list_any (λ (s : SessionSeen). s.cut) sessions) is))
    by x sessions zero s false is e at more = let same : x ≡ s = (cc at) in sym (ap (λ (y : SessionSeen). y.cut) same) ∙ is
    by x sessions (suc i) s false is e at more = more (sym (ap (λ (b : Bool). b || list_any (λ (s : SessionSeen). s.cut) sessions) is) ∙ e) i at

-- texts
pub joined : (sessions : List SessionSeen) → flat_map session_text sessions ≡ flat_map (λ (t : List ℕ). t) (map session_text sessions)
joined [] = refl
joined (s ∷ sessions) = ap (λ (l : List ℕ). session_text s ++ l) (joined sessions)
