-- The line of an entry of a trail.
use Rattle.std.specs.Prelude.{ℕ, ◌≡◌, ◌<◌, ◌⊎◌, List, [], ◌∷◌, ◌++◌, ◌==◌, codes, if◌then◌else◌, slice_index_or}
use Rattle.std.specs.List.{join_with_byte, flat_map}
use Rattle.std.specs.Fmt.{decimal}
use Rattle.policy.specs.declared.rights.Rights.{Rights}
use Rattle.audit_trail.specs.declared.entry.Entry.{Entry}
use Rattle.audit_trail.specs.declared.entry.Entry.TheVariants as E

-- the instructions that give a reply, by their numbers from 0
abbrev pub mnemonics : List (List ℕ)
mnemonics =
    codes "call" ∷ codes "ret" ∷ codes "spawn" ∷ codes "makeknown" ∷ codes "terminate" ∷ codes "create" ∷ codes "delete" ∷ codes "swapin" ∷
    codes "swapout" ∷ codes "fetch" ∷ codes "update" ∷ codes "read" ∷ codes "await" ∷ codes "advance" ∷ codes "ticket" ∷ codes "out" ∷ []

-- the mnemonic of a number
abbrev pub mnemonic : ℕ → List ℕ
mnemonic number = slice_index_or mnemonics number []

-- the kind of an access in a word
abbrev pub kind_text : Rights → List ℕ
kind_text kind = if kind.0 == 1 then codes "observe" else (if kind.0 == 2 then codes "modify" else codes "both")

-- the words of a line
abbrev pub entry_words : Entry → List (List ℕ)
entry_words (E.Access n i kind u class) =
    codes "access" ∷ decimal n.processor ∷ decimal n.class ∷ decimal n.slot ∷ mnemonic i ∷ kind_text kind ∷ decimal u.mentor ∷ decimal u.serial ∷
    decimal class ∷ []
entry_words (E.Reply n i code) = codes "reply" ∷ decimal n.processor ∷ decimal n.class ∷ decimal n.slot ∷ mnemonic i ∷ decimal code ∷ []

-- the line, without its line feed: the words with one blank between them
abbrev pub line_text : Entry → List ℕ
line_text e = join_with_byte 32 (entry_words e)

-- the lines of a trail, each with its line feed
abbrev pub lines_text : List Entry → List ℕ
lines_text entries = flat_map (λ (e : Entry). line_text e ++ 10 ∷ []) entries

-- An entry has a line where its instruction is one of the list, and its access is to observe, to modify, or both.
abbrev pub HasLine : Entry → Type 0
HasLine (E.Access n i kind u class) = (i < 16) × ((kind.0 ≡ 1) ⊎ (kind.0 ≡ 2) ⊎ (kind.0 ≡ 3))
HasLine (E.Reply n i code) = i < 16
