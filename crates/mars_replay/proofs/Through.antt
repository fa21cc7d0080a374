-- Sessions that are through stay so, and each is through at the end of a run.
use Rattle.std.proofs.Common.{◌≡◌, ℕ, zero, suc, ◌+◌, ◌<◌, List, length, refl, ap, sym, ◌∙◌, subst, arith, inl, inr}
use Rattle.std.specs.Prelude.{Some, slice_get, replicate}
use Rattle.std.proofs.lemmas.Bool.Decides.{eqb_tells}
use Rattle.mars_session.specs.SessionPoints.{SessionPart}
use Rattle.mars_session.specs.SessionSeen.{SessionSeen}
use Rattle.mars_session.specs.Worlds.{HasEnded, RunsToEnds}
use Rattle.mars_replay.specs.WorldSeen.{WorldSeen, seen_parts, world_of, NoneIsCut, AreWorldEvents}
use Rattle.mars_replay.specs.WorldRuns.{IsThroughAt, RunsThrough}
use Rattle.mars_replay.specs.WorldInside.{IsSoundWorld}
use Rattle.mars_replay.proofs.Mapped.{map_get}
use Rattle.mars_replay.proofs.SoundWorlds.{events_sound, events_count, events_cap}
use Rattle.mars_replay.proofs.Happenings.{stayed_at, events_uncut, events_parts, events_play}

events_through : (i j k : ℕ) (old new : WorldSeen) → AreWorldEvents (replicate k i) old new → (j ≡ i → ⊥) → IsThroughAt j old → IsThroughAt j new
events_through i j zero old new a ne t = subst (λ (w : WorldSeen). IsThroughAt j w) (sym a) t
events_through i j (suc k) old new a ne t = events_through i j k a.1 new a.3 ne (t.0, stayed_at i j a.0 old a.1 t.0 a.2 ne t.1, t.2)

pub runs_through : (i n : ℕ) (old new : WorldSeen) → RunsThrough i n old new → ((j : ℕ) → j < i → IsThroughAt j old) → (j : ℕ) → j < i + n → IsThroughAt j new
runs_through i zero old new r before j lt = subst (λ (w : WorldSeen). IsThroughAt j w) (sym r) (before j (omega (arith, lt)))
runs_through i (suc n) old new r before j lt = runs_through (suc i) n r.1 new r.4
    (λ k below. elim (eqb_tells k i) [ inl t ↦ subst (λ (x : ℕ). IsThroughAt x r.1) (sym t.1) r.3 | inr t ↦ events_through i k r.0 old r.1 r.2 t.1 (before k (omega (arith, below, t.1))) ])
    j (omega (arith, lt))

pub runs_sound : (i n : ℕ) (old new : WorldSeen) → RunsThrough i n old new → IsSoundWorld old → IsSoundWorld new
runs_sound i zero old new r h = subst IsSoundWorld (sym r) h
runs_sound i (suc n) old new r h = runs_sound (suc i) n r.1 new r.4 (events_sound (replicate r.0 i) old r.1 r.2 h)

pub runs_count : (i n : ℕ) (old new : WorldSeen) → RunsThrough i n old new → length new.sessions ≡ length old.sessions
runs_count i zero old new r = ap (λ (w : WorldSeen). length w.sessions) r
runs_count i (suc n) old new r = runs_count (suc i) n r.1 new r.4 ∙ events_count (replicate r.0 i) old r.1 r.2

pub runs_cap : (i n : ℕ) (old new : WorldSeen) → RunsThrough i n old new → new.table.cap ≡ old.table.cap
runs_cap i zero old new r = ap (λ (w : WorldSeen). w.table.cap) r
runs_cap i (suc n) old new r = runs_cap (suc i) n r.1 new r.4 ∙ events_cap (replicate r.0 i) old r.1 r.2

pub runs_parts : (i n : ℕ) (old new : WorldSeen) → RunsThrough i n old new → seen_parts new ≡ seen_parts old
runs_parts i zero old new r = ap seen_parts r
runs_parts i (suc n) old new r = runs_parts (suc i) n r.1 new r.4 ∙ events_parts (replicate r.0 i) old r.1 r.2

pub runs_uncut : (i n : ℕ) (old new : WorldSeen) → RunsThrough i n old new → NoneIsCut new → NoneIsCut old
runs_uncut i zero old new r none = subst NoneIsCut r none
runs_uncut i (suc n) old new r none = events_uncut (replicate r.0 i) old r.1 r.2 (runs_uncut (suc i) n r.1 new r.4 none)

-- one more session
pub runs_more : (i n events : ℕ) (old mid new : WorldSeen) → RunsThrough i n old mid → AreWorldEvents (replicate events (i + n)) mid new → IsThroughAt (i + n) new → RunsThrough i (suc n) old new
runs_more i zero events old mid new r a t =
    let at : i + zero ≡ i = omega arith in
    (events, new, subst (λ (w : WorldSeen). AreWorldEvents (replicate events i) w new) r (subst (λ (k : ℕ). AreWorldEvents (replicate events k) mid new) at a), subst (λ (k : ℕ). IsThroughAt k new) at t, refl)
runs_more i (suc n) events old mid new r a t =
    let at : i + suc n ≡ suc i + n = omega arith in
    (r.0, r.1, r.2, r.3, runs_more (suc i) n events r.1 mid new r.4 (subst (λ (k : ℕ). AreWorldEvents (replicate events k) mid new) at a) (subst (λ (k : ℕ). IsThroughAt k new) at t))

-- where no session is cut, sessions come to their ends
has_ended : (parts : List SessionPart) (i : ℕ) (w : WorldSeen) → seen_parts w ≡ parts → NoneIsCut w → IsThroughAt i w → HasEnded parts i (world_of w)
has_ended parts i w are none t = record {
  part = t.0.part;
  point = t.0.point;
  is_part = subst (λ (l : List SessionPart). slice_get l i ≡ Some t.0.part) are (map_get (λ (s : SessionSeen). s.part) w.sessions i t.0 t.1);
  is_point = map_get (λ (s : SessionSeen). s.point) w.sessions i t.0 t.1;
  ended = elim t.2 [ inl is ↦ absurd (cc (is, none i t.0 t.1)) | inr e ↦ e ];
}

pub runs_to_ends : (parts : List SessionPart) (i n : ℕ) (old new : WorldSeen) → seen_parts old ≡ parts → RunsThrough i n old new → NoneIsCut new → RunsToEnds parts i n (world_of old) (world_of new)
runs_to_ends parts i zero old new are r none = ap world_of r
runs_to_ends parts i (suc n) old new are r none =
    let uncut = runs_uncut (suc i) n r.1 new r.4 none in
    let at = events_parts (replicate r.0 i) old r.1 r.2 ∙ are in
    (r.0, world_of r.1, events_play parts (replicate r.0 i) old r.1 are r.2 uncut, has_ended parts i r.1 at uncut r.3, runs_to_ends parts (suc i) n r.1 new at r.4 none)
