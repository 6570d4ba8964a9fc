-- What the calls of a disk in memory leave.
use Rattle.std.proofs.Common.{◌≡◌, ◌↔◌, ◌⊎◌, inl, inr, ℕ, ◌+◌, ◌<◌, ◌≤◌, List, [], ◌∷◌, ◌++◌, All, Bool, true, false, length, replicate, take, drop, refl, sym, ◌∙◌, ap, subst, arith, length-append}
use Rattle.std.proofs.lemmas.List.{take-append-le, take_all, take_at, length-replicate}
use Rattle.std.proofs.lemmas.List.Elements.{All-push}
use Rattle.std.proofs.lemmas.Bool.{cases_lt}
use Rattle.std.specs.Prelude.{nat_lt, if◌then◌else◌}
use Rattle.safe_save.specs.declared.fill.Fill.{Fill}
use Rattle.safe_save.specs.declared.fill.Fill.TheVariants.{Zeros, Ones, Written}
use Rattle.safe_save.specs.Disk.{written, DiffersIn, Elapses}
use Rattle.safe_save.specs.Memory.{Call, Idle, State, Log, Memory, fresh, after_call, after_calls, filled, image_of, IsLeft, IsWithin, IsWhole, MayLeave, LeftSince, state_of, state_at, noted, noted_if_room, next_call, next_fault, room_after, refused, done, IsRefusal}
use Rattle.safe_save.specs.MemoryLaws.{AreWithin, IsSound, sound}
use Rattle.safe_save.specs.Writing.{written_differs}
use Rattle.safe_save.proofs.Drawing.{after_append}

-- one call more
pub shown_more : (opening bytes : List ℕ) (calls new : List Call) (call : Call) → new ≡ calls ++ call ∷ [] → bytes ≡ (after_call call (after_calls calls (fresh opening))).bytes → bytes ≡ (after_calls new (fresh opening)).bytes
shown_more opening bytes calls new call more shown =
    shown ∙ (ap (λ (s : State). s.bytes) (sym (after_append calls (call ∷ []) (fresh opening))) ∙ ap (λ (cs : List Call). (after_calls cs (fresh opening)).bytes) (sym more))

pub within_more : (calls new : List Call) (call : Call) → new ≡ calls ++ call ∷ [] → All IsWithin calls → IsWithin call → All IsWithin new
within_more calls new call more all one = subst (All IsWithin) (sym more) (All-push IsWithin calls call all one)

-- a vector after its bytes were written over
pub written_over : (n at : ℕ) (bytes old buf image : List ℕ) → image ≡ written buf at bytes → buf ≡ old → length buf ≡ n → length old ≡ 8388640 → at + length bytes ≤ 8388640 → take n (image ++ drop (length image) old) ≡ written old at bytes
written_over n at bytes old buf image done is size whole fits =
    let same : image ≡ written old at bytes = done ∙ ap (λ (xs : List ℕ). written xs at bytes) is in
    let differs = written_differs at bytes old (omega arith) in
    let here = ap length same in
    let there = ap length is in
    let all : length image ≡ n = omega (arith, differs.size, here, there, size) in
    take_at image (drop (length image) old) n all ∙ same

pub written_size : (at : ℕ) (bytes old new : List ℕ) → new ≡ written old at bytes → length old ≡ 8388640 → at + length bytes ≤ 8388640 → length new ≡ 8388640
written_size at bytes old new is whole fits = let differs = written_differs at bytes old (omega arith) in ap length is ∙ (differs.size ∙ whole)

-- what ranges are filled with is an image that a crash may leave
record Fills (byte : ℕ) (ranges : List (ℕ × ℕ)) (stood : List ℕ) : Type 0 where
  size : length (filled byte ranges stood) ≡ 8388640
  left : IsLeft ranges stood (filled byte ranges stood)

fills : (byte : ℕ) (ranges : List (ℕ × ℕ)) (stood : List ℕ) → length stood ≡ 8388640 → AreWithin ranges → Fills byte ranges stood
fills byte [] stood size within = record { size = size; left = refl }
fills byte (range ∷ ranges) stood size within =
    let before = fills byte ranges stood size within.1 in
    let image = filled byte ranges stood in
    let n : length (replicate range.1 byte) ≡ range.1 = length-replicate range.1 byte in
    let fits = within.0 in
    let here = before.size in
    let differs = written_differs range.0 (replicate range.1 byte) image (omega arith) in
    record {
      size = differs.size ∙ here;
      left = (image, before.left, subst (λ (k : ℕ). DiffersIn range.0 k image (written image range.0 (replicate range.1 byte))) n differs);
    }

image_left : (fill : Fill) (s : State) → IsSound s → IsLeft s.ranges s.stood (image_of fill s)
image_left Zeros s sound = (fills 0 s.ranges s.stood sound.stood sound.ranges).left
image_left Ones s sound = (fills 255 s.ranges s.stood sound.stood sound.ranges).left
image_left Written s sound = sound.shown

pub drawn_left : (m : Memory) (count : ℕ) (fill : Fill) (image : List ℕ) → IsWhole m → image ≡ image_of fill (state_at m count) → (let s = state_at m count in IsLeft s.ranges s.stood image)
drawn_left m count fill image whole is =
    let s = state_at m count in
    subst (λ (xs : List ℕ). IsLeft s.ranges s.stood xs) (sym is) (image_left fill s (sound m count whole))

-- Time goes on by a call more of the record, or by none.
left_at : Memory → ℕ → List ℕ → Type 0
left_at m k c = let s = state_at m k in IsLeft s.ranges s.stood c

pub time_more : (m n : Memory) (call : Call) → n.opening ≡ m.opening → n.log.calls ≡ m.log.calls ++ call ∷ [] → Elapses (length m.log.calls) (length n.log.calls) (LeftSince m) (LeftSince n) (MayLeave n)
time_more m n call opening more = record {
  later = omega (arith, size);
  nothing_else = λ t c le left. by_time t c left (cases_lt (length m.log.calls) left.0);
  keeps = λ t c le left. let few = left.2 in (left.0, left.1, omega (arith, size), subst (λ (s : State). IsLeft s.ranges s.stood c) (sym (same left.0 few)) left.3);
}
  where
    size : length n.log.calls ≡ length m.log.calls + 1
    size = ap length more ∙ length-append m.log.calls (call ∷ [])

    same : (k : ℕ) → k ≤ length m.log.calls → state_at n k ≡ state_at m k
    same k few = ap (λ (xs : List ℕ). after_calls (take k n.log.calls) (fresh xs)) opening ∙ ap (λ (cs : List Call). after_calls cs (fresh m.opening)) (ap (λ (cs : List Call). take k cs) more ∙ take-append-le k m.log.calls (call ∷ []) few)

    by_time : (t : ℕ) (c : List ℕ) (left : LeftSince n t c) → (length m.log.calls < left.0) ⊎ (left.0 ≤ length m.log.calls) → LeftSince m t c ⊎ MayLeave n c
    by_time t c left (inl late) = let all : length n.log.calls ≤ left.0 = omega (arith, size) in inr (subst (λ (cs : List Call). let s = after_calls cs (fresh n.opening) in IsLeft s.ranges s.stood c) (take_all left.0 n.log.calls all) left.3)
    by_time t c left (inr early) = inl (left.0, left.1, early, subst (λ (s : State). IsLeft s.ranges s.stood c) (same left.0 early) left.3)

pub time_same : (m n : Memory) → n.opening ≡ m.opening → n.log.calls ≡ m.log.calls → Elapses (length m.log.calls) (length n.log.calls) (LeftSince m) (LeftSince n) (MayLeave n)
time_same m n opening same = record {
  later = let e = ap length same in omega arith;
  nothing_else = λ t c le left. inl (subst (λ (cs : List Call). (k : ℕ) × (t ≤ k) × (k ≤ length cs) × (let s = after_calls (take k cs) (fresh m.opening) in IsLeft s.ranges s.stood c)) same
      (subst (λ (xs : List ℕ). (k : ℕ) × (t ≤ k) × (k ≤ length n.log.calls) × (let s = after_calls (take k n.log.calls) (fresh xs) in IsLeft s.ranges s.stood c)) opening left));
  keeps = λ t c le left. subst (λ (xs : List ℕ). (k : ℕ) × (t ≤ k) × (k ≤ length n.log.calls) × (let s = after_calls (take k n.log.calls) (fresh xs) in IsLeft s.ranges s.stood c)) (sym opening)
      (subst (λ (cs : List Call). (k : ℕ) × (t ≤ k) × (k ≤ length cs) × (let s = after_calls (take k cs) (fresh m.opening) in IsLeft s.ranges s.stood c)) (sym same) left);
}

-- a crash leaves what the state says
left_by : (m : Memory) (s : State) → state_of m ≡ s → (c : List ℕ) → MayLeave m c ↔ IsLeft s.ranges s.stood c
left_by m s is c = subst (λ (t : State). MayLeave m c ↔ IsLeft t.ranges t.stood c) is (λ left. left, λ left. left)

-- the disk after a call that succeeded
pub record IsDone (call : Call) (before after : Memory) : Type 0 where
  pub honest : IsWhole before ↔ IsWhole after
  pub seen : (state_of after).bytes ≡ (after_call call (state_of before)).bytes
  pub images : (c : List ℕ) → let s = after_call call (state_of before) in MayLeave after c ↔ IsLeft s.ranges s.stood c
  pub time : Elapses (length before.log.calls) (length after.log.calls) (LeftSince before) (LeftSince after) (MayLeave after)

done_is : (m : Memory) (call : Call) → IsWithin call → IsWhole m → IsDone call m (done m call)
done_is m call within whole =
    let state : state_of (done m call) ≡ after_call call (state_of m) = after_append m.log.calls (call ∷ []) (fresh m.opening) in
    record {
      honest = (λ h. record { size = whole.size; within = All-push IsWithin m.log.calls call whole.within within }, λ h. whole);
      seen = ap (λ (s : State). s.bytes) state;
      images = left_by (done m call) (after_call call (state_of m)) state;
      time = time_more m (done m call) call refl refl;
    }

-- it is counted at its begin, and noted at its end
pub is_done : {m mid n : Memory} (call : Call) → IsWithin call → IsWhole m → mid ≡ record m { calls = next_call m.calls } →
    n ≡ record mid { log = record (noted mid.log call) { room = room_after call mid.log.room } } → IsDone call m n
is_done {m} call within whole counted noted_so = rw (noted_so, counted) (done_is m call within whole)

-- a call that failed: it is noted or not
idle_if_room : (log : Log) → ((noted_if_room log Idle).calls ≡ log.calls ++ Idle ∷ []) ⊎ ((noted_if_room log Idle).calls ≡ log.calls)
idle_if_room log = by_room (nat_lt (length log.calls) log.most)
  where
    by_room : (b : Bool) → ((if b then noted log Idle else log).calls ≡ log.calls ++ Idle ∷ []) ⊎ ((if b then noted log Idle else log).calls ≡ log.calls)
    by_room true = inl refl
    by_room false = inr refl

refused_state : (m : Memory) → state_of (refused m) ≡ state_of m
refused_state m = by_room (idle_if_room m.log)
  where
    by_room : ((noted_if_room m.log Idle).calls ≡ m.log.calls ++ Idle ∷ []) ⊎ ((noted_if_room m.log Idle).calls ≡ m.log.calls) → state_of (refused m) ≡ state_of m
    by_room (inl more) = ap (λ (cs : List Call). after_calls cs (fresh m.opening)) more ∙ after_append m.log.calls (Idle ∷ []) (fresh m.opening)
    by_room (inr same) = ap (λ (cs : List Call). after_calls cs (fresh m.opening)) same

refused_whole : (m : Memory) → IsWhole m → IsWhole (refused m)
refused_whole m whole = record { size = whole.size; within = by_room (idle_if_room m.log) }
  where
    by_room : ((noted_if_room m.log Idle).calls ≡ m.log.calls ++ Idle ∷ []) ⊎ ((noted_if_room m.log Idle).calls ≡ m.log.calls) → All IsWithin (refused m).log.calls
    by_room (inl more) = within_more m.log.calls (noted_if_room m.log Idle).calls Idle more whole.within tt
    by_room (inr same) = subst (All IsWithin) (sym same) whole.within

refused_time : (m : Memory) → Elapses (length m.log.calls) (length (refused m).log.calls) (LeftSince m) (LeftSince (refused m)) (MayLeave (refused m))
refused_time m = by_room (idle_if_room m.log)
  where
    by_room : ((noted_if_room m.log Idle).calls ≡ m.log.calls ++ Idle ∷ []) ⊎ ((noted_if_room m.log Idle).calls ≡ m.log.calls) → Elapses (length m.log.calls) (length (refused m).log.calls) (LeftSince m) (LeftSince (refused m)) (MayLeave (refused m))
    by_room (inl more) = time_more m (refused m) Idle refl more
    by_room (inr same) = time_same m (refused m) refl same

-- the disk after it
refused_is : (m : Memory) → IsWhole m → IsRefusal m (refused m)
refused_is m whole =
    let state = refused_state m in
    record {
      leaves = refl;
      honest = (λ h. refused_whole m whole, λ h. whole);
      seen = ap (λ (s : State). s.bytes) state;
      images = left_by (refused m) (state_of m) state;
      time = refused_time m;
    }

pub is_refusal : {m mid n : Memory} → IsWhole m → mid ≡ record m { calls = next_call m.calls } →
    n ≡ record mid { log = noted_if_room mid.log Idle; faults = next_fault mid.faults } → IsRefusal m n
is_refusal {m} whole counted noted_so = rw (noted_so, counted) (refused_is m whole)
