-- The texts of the scripts of posters and collectors.
use Rattle.std.specs.Prelude.{ℕ, List, [], ◌∷◌, ◌++◌, codes}
use Rattle.std.specs.Fmt.{decimal}

-- the lines of a Post script
abbrev pub post_lines : (entry size first count : ℕ) → List (List ℕ)
post_lines entry size first count =
    (codes "set r4 " ++ decimal entry) ∷
    codes "set r7 3" ∷
    codes "@find" ∷
    codes "makeknown r2 r4 r7" ∷
    codes "jumpz r0 @have" ∷
    codes "jump @find" ∷
    codes "@have" ∷
    codes "copy r8 r1" ∷
    (codes "set r5 " ++ decimal size) ∷
    (codes "set r6 " ++ decimal count) ∷
    (codes "set r9 " ++ decimal first) ∷
    codes "set r10 1" ∷
    codes "@go" ∷
    codes "jumpz r6 @end" ∷
    codes "ticket r8" ∷
    codes "copy r11 r1" ∷
    codes "jumpl r11 r5 @room" ∷
    codes "jump @end" ∷
    codes "@room" ∷
    codes "await r8 r11" ∷
    codes "put r9 r2" ∷
    codes "@try" ∷
    codes "update r8 r11 r10 r2" ∷
    codes "jumpz r0 @sent" ∷
    codes "jump @try" ∷
    codes "@sent" ∷
    codes "advance r8" ∷
    codes "add r9 r10" ∷
    codes "sub r6 r10" ∷
    codes "jump @go" ∷
    codes "@end" ∷
    codes "halt" ∷ []

-- the lines of a Collect script
abbrev pub collect_lines : (entry count : ℕ) → List (List ℕ)
collect_lines entry count =
    (codes "set r4 " ++ decimal entry) ∷
    codes "set r7 1" ∷
    codes "@find" ∷
    codes "makeknown r2 r4 r7" ∷
    codes "jumpz r0 @have" ∷
    codes "jump @find" ∷
    codes "@have" ∷
    codes "copy r8 r1" ∷
    (codes "set r6 " ++ decimal count) ∷
    codes "set r10 1" ∷
    codes "@go" ∷
    codes "jumpl r9 r6 @more" ∷
    codes "halt" ∷
    codes "@more" ∷
    codes "copy r11 r9" ∷
    codes "add r11 r10" ∷
    codes "await r8 r11" ∷
    codes "@read" ∷
    codes "fetch r8 r9 r10 r9" ∷
    codes "jumpz r0 @done" ∷
    codes "jump @read" ∷
    codes "@done" ∷
    codes "get r12 r9" ∷
    codes "out r12" ∷
    codes "add r9 r10" ∷
    codes "jump @go" ∷ []

-- lines, each ended by a line feed
abbrev pub text_of : List (List ℕ) → List ℕ
text_of [] = []
text_of (line ∷ more) = line ++ 10 ∷ text_of more

-- the text of a Post script
abbrev pub post_bytes : (entry size first count : ℕ) → List ℕ
post_bytes entry size first count = text_of (post_lines entry size first count)

-- the text of a Collect script
abbrev pub collect_bytes : (entry count : ℕ) → List ℕ
collect_bytes entry count = text_of (collect_lines entry count)
