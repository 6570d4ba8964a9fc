-- A home or an entry in range is read back from its word.
use Rattle.std.proofs.Common.{ℕ, ◌+◌, ◌-◌, ◌*◌, ◌/◌, ◌%◌, ◌^◌, ◌≤◌, ◌<◌, true, false, ◌&&◌, ◌≡◌, refl, ap, ◌∙◌, Option, Some, None, arith}
use Rattle.std.specs.Prelude.{◌==◌, nat_le, nat_lt}
use Rattle.std.proofs.lemmas.Bool.{and_parts, ltb-true, leb-true, eq-eqb, ne_eqb}
use Rattle.words_layout.specs.Coding.{home_word, pack_home, home_read, home_in_range, home_of, unpack_home, unpack_alias, size_in_range, pack_entry, entry_of, alias_read, alias_in_range, alias_spelled}
use Rattle.std.specs.Prelude.{unwrap_or}
use Rattle.std.specs.Option.{option_and_then}
use Rattle.words_layout.specs.declared.coding.Home.{Home}
use Rattle.words_layout.specs.declared.coding.Home.TheVariants.{Never, Stored, Resident, Deleted}
use Rattle.words_layout.specs.declared.coding.Alias.{Alias}

-- the fields of a home word
pub record HomeFields (word state frame page size : ℕ) : Type 0 where
  pub state_is : word % 4 ≡ state
  pub frame_is : word / 2 ^ 8 % 2 ^ 8 ≡ frame
  pub page_is : word / 2 ^ 16 % 2 ^ 8 ≡ page
  pub size_is : word / 2 ^ 24 % 2 ^ 8 ≡ size

fields : (state frame page size : ℕ) → state < 4 → frame < 256 → page < 256 → size < 256 → HomeFields (home_word state frame page size) state frame page size
fields state frame page size a b c d = record { state_is = omega arith; frame_is = omega arith; page_is = omega arith; size_is = omega arith }

-- a home that reads as its word's fields is read back
read_back : (h : Home) → home_in_range h ≡ true → home_read (pack_home h % 4) (pack_home h / 2 ^ 8 % 2 ^ 8) (pack_home h / 2 ^ 16 % 2 ^ 8) (pack_home h / 2 ^ 24 % 2 ^ 8) ≡ h → unpack_home (pack_home h) ≡ Some h
read_back h range e = rw (e, range, eq-eqb (pack_home h) (pack_home h) refl) refl

pub unpack_home-pack_home : (h : Home) → home_in_range h ≡ true → unpack_home (pack_home h) ≡ Some h
unpack_home-pack_home Never range = refl
unpack_home-pack_home Deleted range = refl
unpack_home-pack_home (Stored page size) range =
    let parts = and_parts (nat_lt page 32) (size_in_range size) range in
    let sizes = and_parts (nat_le 1 size) (nat_le size 64) parts.1 in
    let p : page < 32 = ltb-true page 32 parts.0 in
    let z : size ≤ 64 = leb-true size 64 sizes.1 in
    let f : HomeFields (home_word 1 0 (page + 1) size) 1 0 (page + 1) size = fields 1 0 (page + 1) size (omega arith) (omega arith) (omega arith) (omega arith) in
    let e : page + 1 - 1 ≡ page = omega arith in
    read_back (Stored page size) range (rw (f.state_is, f.page_is, f.size_is) (rw e refl))
unpack_home-pack_home (Resident frame page size) range = resident page range
  where
    resident : (page : Option ℕ) → home_in_range (Resident frame page size) ≡ true → unpack_home (pack_home (Resident frame page size)) ≡ Some (Resident frame page size)
    resident None range =
        let parts = and_parts (nat_lt frame 16 && true) (size_in_range size) range in
        let sizes = and_parts (nat_le 1 size) (nat_le size 64) parts.1 in
        let frames = and_parts (nat_lt frame 16) true parts.0 in
        let p : frame < 16 = ltb-true frame 16 frames.0 in
        let z : size ≤ 64 = leb-true size 64 sizes.1 in
        let f : HomeFields (home_word 2 frame 0 size) 2 frame 0 size = fields 2 frame 0 size (omega arith) (omega arith) (omega arith) (omega arith) in
        read_back (Resident frame None size) range (rw (f.state_is, f.frame_is, f.page_is, f.size_is) refl)
    resident (Some page) range =
        let parts = and_parts (nat_lt frame 16 && nat_lt page 32) (size_in_range size) range in
        let sizes = and_parts (nat_le 1 size) (nat_le size 64) parts.1 in
        let frames = and_parts (nat_lt frame 16) (nat_lt page 32) parts.0 in
        let p : frame < 16 = ltb-true frame 16 frames.0 in
        let q : page < 32 = ltb-true page 32 frames.1 in
        let z : size ≤ 64 = leb-true size 64 sizes.1 in
        let f : HomeFields (home_word 2 frame (page + 1) size) 2 frame (page + 1) size = fields 2 frame (page + 1) size (omega arith) (omega arith) (omega arith) (omega arith) in
        let e : page + 1 - 1 ≡ page = omega arith in
        let g : (page + 1 == 0) ≡ false = ne_eqb (page + 1) 0 (λ x. absurd (omega arith)) in
        read_back (Resident frame (Some page) size) range (rw (f.state_is, f.frame_is, f.page_is, f.size_is) (rw (g, e) refl))

-- a word that spells a home in range is taken as that home
pub home_of-pack_home : (h : Home) → home_in_range h ≡ true → home_of (pack_home h) ≡ h
home_of-pack_home h range = ap (λ (o : Option Home). unwrap_or o Never) (unpack_home-pack_home h range)

-- the fields of an entry word
pub record EntryFields (word : ℕ) (a : Alias) : Type 0 where
  pub class_is : word / 2 ^ 8 % 2 ^ 8 ≡ a.class
  pub r1_is : word / 2 ^ 16 % 2 ^ 3 ≡ a.r1
  pub r2_is : word / 2 ^ 20 % 2 ^ 3 ≡ a.r2
  pub r3_is : word / 2 ^ 24 % 2 ^ 3 ≡ a.r3
  pub size_is : word / 2 ^ 32 % 2 ^ 8 ≡ a.size
  pub serial_is : word / 2 ^ 40 % 2 ^ 8 ≡ a.serial
  pub some : word ≡ 0 → ⊥

pub entry_fields : (a : Alias) → a.class < 16 → a.r1 ≤ 7 → a.r2 ≤ 7 → a.r3 ≤ 7 → a.size ≤ 64 → a.serial < 64 → EntryFields (pack_entry a) a
entry_fields a c x y z n s = record {
  class_is = omega arith;
  r1_is = omega arith;
  r2_is = omega arith;
  r3_is = omega arith;
  size_is = omega arith;
  serial_is = omega arith;
  some = λ e. absurd (omega arith);
}

-- an entry in range is read back from its word
pub unpack_alias-pack_entry : (a : Alias) → alias_in_range a ≡ true → unpack_alias (pack_entry a) ≡ Some (Some a)
unpack_alias-pack_entry a range =
    let p1 = and_parts (nat_lt a.class 16 && nat_le a.r1 7 && nat_le a.r2 7 && nat_le a.r3 7 && size_in_range a.size) (nat_lt a.serial 64) range in
    let p2 = and_parts (nat_lt a.class 16 && nat_le a.r1 7 && nat_le a.r2 7 && nat_le a.r3 7) (size_in_range a.size) p1.0 in
    let p3 = and_parts (nat_lt a.class 16 && nat_le a.r1 7 && nat_le a.r2 7) (nat_le a.r3 7) p2.0 in
    let p4 = and_parts (nat_lt a.class 16 && nat_le a.r1 7) (nat_le a.r2 7) p3.0 in
    let p5 = and_parts (nat_lt a.class 16) (nat_le a.r1 7) p4.0 in
    let sizes = and_parts (nat_le 1 a.size) (nat_le a.size 64) p2.1 in
    let f : EntryFields (pack_entry a) a = entry_fields a (ltb-true a.class 16 p5.0) (leb-true a.r1 7 p5.1) (leb-true a.r2 7 p4.1) (leb-true a.r3 7 p3.1) (leb-true a.size 64 sizes.1) (ltb-true a.serial 64 p1.1) in
    let read : alias_read (pack_entry a) ≡ a = (λ k. record { class = f.class_is k; r1 = f.r1_is k; r2 = f.r2_is k; r3 = f.r3_is k; size = f.size_is k; serial = f.serial_is k }) in
    let some : (pack_entry a == 0) ≡ false = ne_eqb (pack_entry a) 0 f.some in
    let spelled : alias_spelled (pack_entry a) (alias_read (pack_entry a)) ≡ Some a = ap (alias_spelled (pack_entry a)) read ∙ rw (range, eq-eqb (pack_entry a) (pack_entry a) refl) refl in
    rw some (ap (λ (o : Option Alias). option_and_then (λ x. Some (Some x)) o) spelled)

pub entry_of-pack_entry : (a : Alias) → alias_in_range a ≡ true → entry_of (pack_entry a) ≡ Some a
entry_of-pack_entry a range = ap (λ (o : Option (Option Alias)). unwrap_or o None) (unpack_alias-pack_entry a range)

-- different words of a class have different places, as the kinds of words that a turn guards in a segment's fifteen
pub segment_words_apart : (u v k l : ℕ) → k < 15 → l < 15 → 5 + 15 * u + k ≡ 5 + 15 * v + l → (u ≡ v) × (k ≡ l)
segment_words_apart u v k l a b e = (omega arith, omega arith)
