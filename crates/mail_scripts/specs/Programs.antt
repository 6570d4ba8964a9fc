-- The programs of posters and collectors, and which programs are theirs.
use Rattle.std.specs.Prelude.{ℕ, ◌≡◌, ◌≤◌, List, [], ◌∷◌}
use Rattle.script_lang.specs.declared.instr.Instr.{Instr}
use Rattle.script_lang.specs.declared.instr.Instr.TheVariants.{Halt, Set, Copy, Add, Sub, Jump, JumpZ, JumpL, Get, Put, MakeKnown, Fetch, Update, Await, Advance, Ticket, Out}

-- Post. Entry `entry` of the root is made known at place r8, to observe and modify. Then `count` times: a ticket is drawn into r11,
-- and one that isn't below `size` ends the script; the eventcount is awaited to reach it; r9 is written to that word, again and
-- again until Ok; and the eventcount is advanced. r9 begins with `first` and rises by one.
abbrev pub post_program : (entry size first count : ℕ) → List Instr
post_program entry size first count =
    Set 4 entry ∷ Set 7 3 ∷
    MakeKnown 2 4 7 ∷ JumpZ 0 5 ∷ Jump 2 ∷
    Copy 8 1 ∷ Set 5 size ∷ Set 6 count ∷ Set 9 first ∷ Set 10 1 ∷
    JumpZ 6 24 ∷ Ticket 8 ∷ Copy 11 1 ∷ JumpL 11 5 15 ∷ Jump 24 ∷
    Await 8 11 ∷ Put 9 2 ∷
    Update 8 11 10 2 ∷ JumpZ 0 20 ∷ Jump 17 ∷
    Advance 8 ∷ Add 9 10 ∷ Sub 6 10 ∷ Jump 10 ∷
    Halt ∷ []

-- Collect. Entry `entry` of the root is made known at place r8, to observe. Then `count` times: the eventcount is awaited to
-- reach r9 + 1; word r9 is fetched into pad word r9, again and again until Ok, and printed. r9 begins with 0 and rises by one.
abbrev pub collect_program : (entry count : ℕ) → List Instr
collect_program entry count =
    Set 4 entry ∷ Set 7 1 ∷
    MakeKnown 2 4 7 ∷ JumpZ 0 5 ∷ Jump 2 ∷
    Copy 8 1 ∷ Set 6 count ∷ Set 10 1 ∷
    JumpL 9 6 10 ∷ Halt ∷
    Copy 11 9 ∷ Add 11 10 ∷ Await 8 11 ∷
    Fetch 8 9 10 9 ∷ JumpZ 0 16 ∷ Jump 13 ∷
    Get 12 9 ∷ Out 12 ∷ Add 9 10 ∷ Jump 8 ∷ []

-- A program that posts, whatever its numbers, but that its size is at most 64.
pub record IsPost (program : List Instr) : Type 0 where
  pub entry : ℕ
  pub size : ℕ
  pub first : ℕ
  pub count : ℕ
  pub limit : size ≤ 64
  pub is : program ≡ post_program entry size first count

-- a program that collects, whatever its numbers
pub record IsCollect (program : List Instr) : Type 0 where
  pub entry : ℕ
  pub count : ℕ
  pub is : program ≡ collect_program entry count
