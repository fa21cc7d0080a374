-- Which inequations a recheck tries, and what the keeper has after it.
use Rattle.std.proofs.Common.{◌≡◌, ◌≢◌, ◌↔◌, ◌⊎◌, ℕ, ◌+◌, ◌<◌, Bool, true, false, not, List, [], ◌∷◌, ◌++◌, length, drop, get_or, All, Contains, refl, sym, ap, ◌∙◌, subst, arith, inl, inr}
use Rattle.std.specs.List.Sorted.{IsPermutation}
use Rattle.std.proofs.lemmas.Bool.{false≢true}
use Rattle.std.proofs.lemmas.List.{take-append-drop, take_all}
use Rattle.std.proofs.lemmas.List.Sorted.{All-permutation, Contains-permutation}
use Rattle.std.proofs.lemmas.List.Elements.{All-nil, All-cons, All-head, All-tail, All-push, All-append, All-weaker, All-contains, All-get_or, All-from_get_or, Contains-push, Contains-get_or, Contains-append_left}
use Rattle.mars_store.specs.System.{System, IsSystem, IsUnbound, Grows}
use Rattle.mars_store.specs.Laws.{IsImplied}
use Rattle.mars_store.proofs.CallerLemmas.{grows-refl, grows-trans, difs_independent}
use Rattle.mars_unify.specs.Unified.{AreApart}
use Rattle.mars_watch.specs.Lined.{AreAscending, without, IsLaterLine}
use Rattle.mars_watch.specs.Watched.{CutAt}
use Rattle.mars_watch.specs.Gathered.{AreGathered, AreRising, AreInOrder, AreEach, pair_at}
use Rattle.mars_watch.proofs.CallerLemmas.{each-length, each-at, each-weaker, each-push, each-without, ascending-push, ascending-wider, without-ascends, contains-none, contains-cases, watches-stay, bound-or-not, rising-apart}
use Rattle.mars_dif.specs.declared.dif.Dif.{Dif}
use Rattle.mars_dif.specs.declared.dif.Dif.TheVariants.{Holds, Waits, Fails}
use Rattle.mars_dif.specs.Told.{IsTold}
use Rattle.mars_dif.specs.Inside.{IsInside}
use Rattle.mars_dif.specs.Watched.{AreWatched, IsWatching}
use Rattle.mars_dif.specs.Kept.{Kept, waiting_of, AreOpen, IsAttended, IsCurrent, IsKeeper, with_dif, NoneImplied, OneImplied, IsRechecked}
use Rattle.mars_dif.specs.KeptInside.{OnWaits, with_told, IsApartPlace, IsNoted, IsTried, IsRetried, AreSorted, AreSortedOut}
use Rattle.mars_dif.proofs.Growing.{implied-grows, inside-grows}
use Rattle.mars_dif.proofs.Apart.{not-both}
use Rattle.mars_dif.proofs.Watching.{watched_waits}
use Rattle.mars_dif.proofs.Keeping.{push-allowed, push-excluded, open-all, open-now, open-from, none-implied, one-implied}

-- where the inequation isn't gathered, none of its variables is bound
watched-free : (watches bound more : List (ℕ × ℕ)) (number : ℕ) (touched : List ℕ) → AreGathered watches more touched → (binds : List (ℕ × ℕ)) → AreWatched watches number binds
    → All (λ bind. IsUnbound bound bind.0) binds → Contains touched number ⊎ All (λ bind. IsUnbound (bound ++ more) bind.0) binds
watched-free watches bound more number touched g [] there free = inr (All-nil (λ bind. IsUnbound (bound ++ more) bind.0))
watched-free watches bound more number touched g (e ∷ binds) there free =
    let W : ℕ × ℕ → Type 0 = λ bind. Contains watches (bind.0, number) in
    let F : ℕ × ℕ → Type 0 = λ bind. IsUnbound bound bind.0 in
    let M : ℕ × ℕ → Type 0 = λ bind. IsUnbound (bound ++ more) bind.0 in
    elim (bound-or-not more e.0) [
      | inl (place, h, i) ↦ inl (g place number h (subst (λ n. Contains watches (n, number)) (sym i) (All-head W e binds there)))
      | inr u ↦ elim (watched-free watches bound more number touched g binds (All-tail W e binds there) (All-tail F e binds free)) [
        | inl c ↦ inl c
        | inr rest ↦ inr (All-cons M e binds (All-append (λ equation. equation.0 ≢ e.0) bound more (All-head F e binds free) u) rest)
      ]
    ]

-- an inequation is gathered where a variable was bound that it watches, and else waits on
pub watching-grows : (watches : List (ℕ × ℕ)) (last system : System) (number : ℕ) (dif : ℕ × ℕ) (touched : List ℕ) → Grows last system → AreGathered watches (drop (length last.bound) system.bound) touched
    → IsWatching watches last number dif → Contains touched number ⊎ IsWatching watches system number dif
watching-grows watches last system number dif touched grows g w =
    let more : List (ℕ × ℕ) = drop (length last.bound) system.bound in
    let all : last.bound ++ more ≡ system.bound = ap (λ l. l ++ more) (sym grows.bound) ∙ take-append-drop (length last.bound) system.bound in
    elim (watched-free watches last.bound more number touched g w.binds w.there w.quiet.unbound) [
      | inl c ↦ inl c
      | inr u ↦ inr (record {
        binds = w.binds;
        served = record { seen = w.served.seen; watched = w.served.watched; grows = grows-trans w.served.seen last system w.served.grows grows };
        quiet = record { some = w.quiet.some; unbound = subst (λ b. All (λ bind. IsUnbound b bind.0) w.binds) all u };
        there = w.there;
      })
    ]

attended-grows : (watches : List (ℕ × ℕ)) (failed : Bool) (last system : System) (number : ℕ) (dif : ℕ × ℕ) (touched : List ℕ) → IsSystem last → IsInside last dif → Grows last system
    → AreGathered watches (drop (length last.bound) system.bound) touched → IsAttended watches failed last number dif → Contains touched number ⊎ IsAttended watches failed system number dif
attended-grows watches failed last system number dif touched sound inside grows g (inl w) = elim (watching-grows watches last system number dif touched grows g w) [ inl c ↦ inl c | inr v ↦ inr (inl v) ]
attended-grows watches failed last system number dif touched sound inside grows g (inr f) = inr (inr (f.0, implied-grows last system dif sound grows inside f.1))

-- watches stay, and that one has failed is known still
attended-stays : (watches more : List (ℕ × ℕ)) (was is : Bool) (system : System) (number : ℕ) (dif : ℕ × ℕ) → CutAt watches more → (was ≡ true → is ≡ true) → IsAttended watches was system number dif
    → IsAttended more is system number dif
attended-stays watches more was is system number dif cut noted (inl w) = inl (record {
  binds = w.binds;
  served = w.served;
  quiet = w.quiet;
  there = All-weaker (λ bind. Contains watches (bind.0, number)) (λ bind. Contains more (bind.0, number)) (λ bind c. watches-stay watches more (bind.0, number) cut c) w.binds w.there;
})
attended-stays watches more was is system number dif cut noted (inr f) = inr (noted f.0, f.1)

-- the equality of such an inequation is allowed, and unless one has failed it isn't implied
attended-open : (watches : List (ℕ × ℕ)) (failed : Bool) (system : System) (number : ℕ) (dif : ℕ × ℕ) → IsSystem system → IsAttended watches failed system number dif → AreApart system dif.0 dif.1 → ⊥
attended-open watches failed system number dif sound (inl w) apart = (watched_waits system dif w.binds sound w.served w.quiet).0 apart
attended-open watches failed system number dif sound (inr f) apart = not-both system dif.0 dif.1 sound apart f.1

true-false : (b : Bool) → b ≡ true → b ≡ false → ⊥
true-false b p q = false≢true (sym q ∙ p)

attended-fine : (watches : List (ℕ × ℕ)) (failed : Bool) (system : System) (number : ℕ) (dif : ℕ × ℕ) → IsSystem system → failed ≡ false → IsAttended watches failed system number dif → IsImplied system dif.0 dif.1 → ⊥
attended-fine watches failed system number dif sound e (inl w) implied = (watched_waits system dif w.binds sound w.served w.quiet).1 implied
attended-fine watches failed system number dif sound e (inr f) implied = true-false failed f.0 e

each-fine : (watches : List (ℕ × ℕ)) (failed : Bool) (system : System) → IsSystem system → failed ≡ false → (numbers : List ℕ) (difs : List (ℕ × ℕ)) → AreEach (IsAttended watches failed system) numbers difs → NoneImplied system difs
each-fine watches failed system sound e [] [] h = All-nil (λ dif. IsImplied system dif.0 dif.1 → ⊥)
each-fine watches failed system sound e [] (d ∷ difs) h = absurd h
each-fine watches failed system sound e (n ∷ numbers) [] h = absurd h
each-fine watches failed system sound e (n ∷ numbers) (d ∷ difs) h =
    All-cons (λ dif. IsImplied system dif.0 dif.1 → ⊥) d difs (attended-fine watches failed system n d sound e h.0) (each-fine watches failed system sound e numbers difs h.1)

-- the keeper's inequations are in the system
pub kept-inside : (kept : Kept) (now : System) (added : List (ℕ × ℕ)) → IsKeeper kept now added → All (IsInside now) added
kept-inside kept now added is = All-weaker (IsInside is.seen) (IsInside now) (λ dif h. inside-grows is.seen now dif is.grows h) added is.current.inside

pub waiting-inside : (kept : Kept) (now : System) (added : List (ℕ × ℕ)) → IsKeeper kept now added → All (IsInside now) (waiting_of kept)
waiting-inside kept now added is = open-all (IsInside now) is.seen is.current.waiting (kept-inside kept now added is)

pub sizes-same : (kept : Kept) (now : System) (added : List (ℕ × ℕ)) → IsKeeper kept now added → length kept.numbers.now ≡ length kept.difs.now
sizes-same kept now added is = each-length (IsAttended kept.watches kept.failed is.seen) kept.numbers.now kept.difs.now is.current.attended

-- so the tries begin
pub touched-sorted : (kept : Kept) (now : System) (added : List (ℕ × ℕ)) (touched : List ℕ) → IsKeeper kept now added → AreGathered kept.watches (drop kept.seen now.bound) touched
    → AreSorted now kept.difs.now kept.numbers.now touched kept.watches [] kept.failed kept.failed
touched-sorted kept now added touched is g =
    let R : ℕ → ℕ × ℕ → Type 0 = IsAttended kept.watches kept.failed is.seen in
    let inside : All (IsInside is.seen) kept.difs.now = open-all (IsInside is.seen) is.seen is.current.waiting is.current.inside in
    let g' : AreGathered kept.watches (drop (length is.seen.bound) now.bound) touched = subst (λ n. AreGathered kept.watches (drop n now.bound) touched) is.current.seen g in
    let sizes = sizes-same kept now added is in
    record {
      apart = All-nil (IsApartPlace now kept.difs.now);
      failed = λ e. inl e;
      sorted = λ place h. elim (attended-grows kept.watches kept.failed is.seen now (get_or kept.numbers.now place 0) (get_or kept.difs.now place (0, 0)) touched is.current.sound
          (All-get_or (IsInside is.seen) kept.difs.now place (0, 0) (omega arith) inside) is.grows g' (each-at R kept.numbers.now kept.difs.now is.current.attended place h)) [
            | inl c ↦ inl c
            | inr a ↦ inr (inr a)
          ];
    }

-- what was told of the inequation at a place
pub noted-tried : (system : System) (difs : List (ℕ × ℕ)) (place number : ℕ) (watches more : List (ℕ × ℕ)) (old new : List ℕ) (was is : Bool) (told : Dif) (dif : ℕ × ℕ) → pair_at difs place ≡ dif → place < length difs → CutAt watches more
    → IsTold told system dif.0 dif.1 → OnWaits told (IsWatching more system number dif) → IsNoted told place old new was is → IsTried system difs place number watches more old new was is
noted-tried system difs place number watches more old new was is Holds dif same h cut t w n = record {
  cut = cut;
  found = inl (n.0, record { within = h; apart = rw same (t.holds.0 refl) });
  noted = λ e. n.1 ∙ e;
  failed = λ e. inl (sym n.1 ∙ e);
}
noted-tried system difs place number watches more old new was is Waits dif same h cut t w n = record {
  cut = cut;
  found = inr (n.0, inl (rw same w));
  noted = λ e. n.1 ∙ e;
  failed = λ e. inl (sym n.1 ∙ e);
}
noted-tried system difs place number watches more old new was is Fails dif same h cut t w n = record {
  cut = cut;
  found = inr (n.0, inr (n.1, rw same (t.fails.0 refl)));
  noted = λ e. n.1;
  failed = λ e. inr (rw same (t.fails.0 refl));
}

-- the inequation of a number that is there
pub tried-there : (system : System) (difs : List (ℕ × ℕ)) (numbers : List ℕ) (place number : ℕ) (watches more : List (ℕ × ℕ)) (old new : List ℕ) (was is : Bool) → AreRising numbers → place < length numbers → length numbers ≡ length difs
    → get_or numbers place 0 ≡ number → IsTried system difs place number watches more old new was is → IsRetried system difs numbers number watches more old new was is
tried-there system difs numbers place number watches more old new was is r h sizes e t = record {
  cut = t.cut;
  kept = λ p c. elim t.found [ inl (q, k) ↦ rw q (Contains-append_left old (place ∷ []) p c) | inr (q, f) ↦ rw q c ];
  apart = λ all. elim t.found [ inl (q, k) ↦ rw q (All-push (IsApartPlace system difs) old place all k) | inr (q, f) ↦ rw q all ];
  noted = t.noted;
  failed = λ f. elim (t.failed f) [
    | inl b ↦ inl b
    | inr i ↦ inr (record { dif = pair_at difs place; among = Contains-get_or difs place (0, 0) (omega arith); implied = i })
  ];
  sorted = λ p k i.
      let same : p ≡ place = rising-apart numbers p place r k h (i ∙ sym e) in
      rw same (elim t.found [ inl (q, known) ↦ inl (rw q (Contains-push old place)) | inr (q, f) ↦ inr (rw e f) ]);
}

-- the inequation of a number that left
pub tried-gone : (system : System) (difs : List (ℕ × ℕ)) (numbers : List ℕ) (number : ℕ) (watches : List (ℕ × ℕ)) (old : List ℕ) (was : Bool) → ((place : ℕ) → place < length numbers → get_or numbers place 0 ≡ number → ⊥)
    → IsRetried system difs numbers number watches watches old old was was
tried-gone system difs numbers number watches old was none = record {
  cut = take_all (length watches) watches (omega arith);
  kept = λ p c. c;
  apart = λ all. all;
  noted = λ e. e;
  failed = λ e. inl e;
  sorted = λ p k i. absurd (none p k i);
}

-- one number after the other
pub sorted-next : (system : System) (difs : List (ℕ × ℕ)) (numbers left rest : List ℕ) (number : ℕ) (watches more : List (ℕ × ℕ)) (old new : List ℕ) (was mid is : Bool) → left ≡ number ∷ rest
    → AreSorted system difs numbers left watches old was mid → IsRetried system difs numbers number watches more old new mid is → AreSorted system difs numbers rest more new was is
sorted-next system difs numbers left rest number watches more old new was mid is e s t = record {
  apart = t.apart s.apart;
  failed = λ f. elim (t.failed f) [ inl b ↦ s.failed b | inr one ↦ inr one ];
  sorted = λ place h. elim (s.sorted place h) [
    | inl c ↦ elim (contains-cases number (get_or numbers place 0) rest (subst (λ xs. Contains xs (get_or numbers place 0)) e c)) [
      | inl i ↦ inr (t.sorted place h (sym i))
      | inr d ↦ inl d
    ]
    | inr (inl c) ↦ inr (inl (t.kept place c))
    | inr (inr a) ↦ inr (inr (attended-stays watches more mid is system (get_or numbers place 0) (pair_at difs place) t.cut t.noted a))
  ];
}

-- what was found, in order
pub sorted-out : (system : System) (difs : List (ℕ × ℕ)) (numbers : List ℕ) (watches : List (ℕ × ℕ)) (found sorted places : List ℕ) (was is : Bool) → AreSorted system difs numbers [] watches found was is → IsPermutation found sorted
    → AreInOrder (length difs) sorted places → AreSortedOut system difs numbers watches places was is
sorted-out system difs numbers watches found sorted places was is s p o = record {
  ascending = o.ascending;
  apart = All-from_get_or (IsApartPlace system difs) places 0 (λ i h.
      All-contains (IsApartPlace system difs) sorted (get_or places i 0) (All-permutation (IsApartPlace system difs) found sorted p s.apart) (o.from (get_or places i 0) (Contains-get_or places i 0 h)));
  failed = s.failed;
  sorted = λ place h. elim (s.sorted place h) [
    | inl c ↦ absurd (contains-none (get_or numbers place 0) c)
    | inr (inl c) ↦ inl (o.all place (Contains-permutation found sorted place p c))
    | inr (inr a) ↦ inr a
  ];
}

-- the keeper after all were tried
pub current-tried : (kept new : Kept) (now : System) (added : List (ℕ × ℕ)) (places : List ℕ) → IsSystem now → IsKeeper kept now added
    → AreSortedOut now kept.difs.now kept.numbers.now new.watches places kept.failed new.failed → new.difs.now ≡ without 0 places kept.difs.now → new.numbers.now ≡ without 0 places kept.numbers.now
    → IsLaterLine kept.numbers new.numbers → new.seen ≡ length now.bound → IsCurrent new now added
current-tried kept new now added places sound is s d n later seen =
    let sizes = sizes-same kept now added is in
    let none : 0 + length kept.numbers.now ≡ length kept.difs.now = omega arith in
    let none' : 0 + length kept.difs.now ≡ length kept.difs.now = omega arith in
    let R : ℕ → ℕ × ℕ → Type 0 = IsAttended new.watches new.failed now in
    let left : AreOpen now (waiting_of kept) (without 0 places kept.difs.now) =
    open-from now kept.difs.now 0 places kept.difs.now refl (subst (λ m. AreAscending 0 places m) (sym none') s.ascending) s.apart
    (λ place h k. elim (s.sorted place (omega arith)) [
      | inl c ↦ inl c
      | inr a ↦ inr (attended-open new.watches new.failed now (get_or kept.numbers.now place 0) (pair_at kept.difs.now place) sound a)
    ]) in
    record {
      sound = sound;
      inside = kept-inside kept now added is;
      waiting = rw d (open-now is.seen now is.current.sound is.grows added (waiting_of kept) (without 0 places kept.difs.now) is.current.inside is.current.waiting left);
      attended = rw (n, d) (each-without R kept.numbers.now kept.difs.now 0 places kept.numbers.now kept.difs.now refl refl sizes (subst (λ m. AreAscending 0 places m) (sym none) s.ascending) (λ place h k. s.sorted place (omega arith)));
      ascending = rw n (ascending-wider 0 (without 0 places kept.numbers.now) (length kept.numbers.past) (length new.numbers.past) (without-ascends 0 0 places kept.numbers.now (length kept.numbers.past) is.current.ascending) later.more);
      seen = seen;
      failed = λ e. elim (s.failed e) [
        | inl f ↦
            let one = is.current.failed f in
            record {
              dif = one.dif;
              among = one.among;
              implied = implied-grows is.seen now one.dif is.current.sound is.grows (All-contains (IsInside is.seen) added one.dif is.current.inside one.among) one.implied;
            }
        | inr one ↦ one-implied is.seen now is.current.waiting one
      ];
    }

-- what a recheck answers
pub rechecked : (kept : Kept) (now : System) (added : List (ℕ × ℕ)) → IsCurrent kept now added → IsRechecked now added (not kept.failed)
rechecked kept now added is =
    let one_of : not kept.failed ≡ false → OneImplied now added = λ e. is.failed (not-false kept.failed e) in
    let none_of : not kept.failed ≡ true → NoneImplied now added =
    λ e. none-implied now now is.sound is.sound (grows-refl now) is.inside is.waiting (each-fine kept.watches kept.failed now is.sound (not-true kept.failed e) kept.numbers.now kept.difs.now is.attended) in
    let exact : (not kept.failed ≡ true) ↔ NoneImplied now added =
    (none_of, λ all. true-unless (not kept.failed) (λ e. let one = one_of e in All-contains (λ dif. IsImplied now dif.0 dif.1 → ⊥) added one.dif all one.among one.implied)) in
    let law = difs_independent now is.sound added (All-weaker (IsInside now) (λ dif. (dif.0 < length now.nodes) × (dif.1 < length now.nodes)) (λ dif h. (h.left, h.right)) added is.inside) in
    record {
      fine = exact;
      solvable = (λ e. law.1 (exact.0 e), λ s. exact.1 (law.0 s));
      failed = one_of;
    }
  where
    not-false : (b : Bool) → not b ≡ false → b ≡ true
    not-false true e = refl
    not-false false e = absurd (false≢true (sym e))

    not-true : (b : Bool) → not b ≡ true → b ≡ false
    not-true true e = absurd (false≢true e)
    not-true false e = refl

    true-unless : (b : Bool) → (b ≡ false → ⊥) → b ≡ true
    true-unless true h = refl
    true-unless false h = absurd (h refl)

one-more : (system : System) (added : List (ℕ × ℕ)) (dif : ℕ × ℕ) → OneImplied system added → OneImplied system (added ++ dif ∷ [])
one-more system added dif one = record { dif = one.dif; among = Contains-append_left added (dif ∷ []) one.dif one.among; implied = one.implied }

-- the keeper with more watches
current-watched : (kept : Kept) (watches : List (ℕ × ℕ)) (now : System) (added : List (ℕ × ℕ)) → CutAt kept.watches watches → IsCurrent kept now added → IsCurrent (record kept { watches = watches }) now added
current-watched kept watches now added cut is = record {
  sound = is.sound;
  inside = is.inside;
  waiting = is.waiting;
  attended = each-weaker (IsAttended kept.watches kept.failed now) (IsAttended watches kept.failed now) (λ number dif a. attended-stays kept.watches watches kept.failed kept.failed now number dif cut (λ e. e) a) kept.numbers.now kept.difs.now is.attended;
  ascending = is.ascending;
  seen = is.seen;
  failed = is.failed;
}

-- the keeper after one more was tried
pub current-told : (kept : Kept) (watches : List (ℕ × ℕ)) (now : System) (added : List (ℕ × ℕ)) (dif : ℕ × ℕ) (told : Dif) → IsCurrent kept now added → IsInside now dif → IsTold told now dif.0 dif.1 → CutAt kept.watches watches
    → OnWaits told (IsWatching watches now (length kept.numbers.past) dif) → IsCurrent (with_told told (record kept { watches = watches }) dif) now (with_dif told added dif)
current-told kept watches now added dif Holds is here t cut w =
    let more = current-watched kept watches now added cut is in
    record {
      sound = more.sound;
      inside = All-push (IsInside now) added dif more.inside here;
      waiting = push-excluded now dif (t.holds.0 refl) more.waiting;
      attended = more.attended;
      ascending = more.ascending;
      seen = more.seen;
      failed = λ e. one-more now added dif (more.failed e);
    }
current-told kept watches now added dif Fails is here t cut w = current-watched kept watches now added cut is
current-told kept watches now added dif Waits is here t cut w =
    let more = current-watched kept watches now added cut is in
    let n : ℕ = length kept.numbers.past in
    record {
      sound = more.sound;
      inside = All-push (IsInside now) added dif more.inside here;
      waiting = push-allowed now dif (λ apart. waits-open (t.holds.1 apart)) more.waiting;
      attended = each-push (IsAttended watches kept.failed now) kept.numbers.now kept.difs.now n dif more.attended (inl w);
      ascending = ascending-push 0 kept.numbers.now n n more.ascending (omega arith);
      seen = more.seen;
      failed = λ e. one-more now added dif (more.failed e);
    }
  where
    waits-open : Waits ≡ Holds → ⊥
    waits-open e = cc
