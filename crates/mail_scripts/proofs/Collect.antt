-- The text of a Collect script spells its program.
use Rattle.std.proofs.Common.{◌≡◌, ℕ, ◌<◌, ◌^◌, List, [], ◌∷◌, refl, subst, sym, ◌∙◌}
use Rattle.std.specs.Prelude.{codes, filter}
use Rattle.std.specs.Fmt.{decimal}
use Rattle.std.specs.List.{AllZip, AllByRecursion}
use Rattle.text_lines.specs.Lines.{lines}
use Rattle.text_lines.specs.Number.{number_of}
use Rattle.text_lines.specs.Printed.{printed, IsLineOfWords}
use Rattle.script_asm.specs.Operand.{Word}
use Rattle.script_asm.specs.Script.{is_instruction}
use Rattle.script_asm.specs.Spelling.{IsInstr, Spells}
use Rattle.mail_scripts.specs.Programs.{collect_program}
use Rattle.mail_scripts.specs.Texts.{collect_bytes}
use Rattle.mail_scripts.proofs.Spelled.{fixed, numbered, register, constant, number, name, printed_text, spells}

-- the words of its lines
abbrev line_list : (entry count : ℕ) → List (List Word)
line_list entry count =
    (codes "set" ∷ codes "r4" ∷ decimal entry ∷ []) ∷
    (codes "set" ∷ codes "r7" ∷ codes "1" ∷ []) ∷
    (codes "@find" ∷ []) ∷
    (codes "makeknown" ∷ codes "r2" ∷ codes "r4" ∷ codes "r7" ∷ []) ∷
    (codes "jumpz" ∷ codes "r0" ∷ codes "@have" ∷ []) ∷
    (codes "jump" ∷ codes "@find" ∷ []) ∷
    (codes "@have" ∷ []) ∷
    (codes "copy" ∷ codes "r8" ∷ codes "r1" ∷ []) ∷
    (codes "set" ∷ codes "r6" ∷ decimal count ∷ []) ∷
    (codes "set" ∷ codes "r10" ∷ codes "1" ∷ []) ∷
    (codes "@go" ∷ []) ∷
    (codes "jumpl" ∷ codes "r9" ∷ codes "r6" ∷ codes "@more" ∷ []) ∷
    (codes "halt" ∷ []) ∷
    (codes "@more" ∷ []) ∷
    (codes "copy" ∷ codes "r11" ∷ codes "r9" ∷ []) ∷
    (codes "add" ∷ codes "r11" ∷ codes "r10" ∷ []) ∷
    (codes "await" ∷ codes "r8" ∷ codes "r11" ∷ []) ∷
    (codes "@read" ∷ []) ∷
    (codes "fetch" ∷ codes "r8" ∷ codes "r9" ∷ codes "r10" ∷ codes "r9" ∷ []) ∷
    (codes "jumpz" ∷ codes "r0" ∷ codes "@done" ∷ []) ∷
    (codes "jump" ∷ codes "@read" ∷ []) ∷
    (codes "@done" ∷ []) ∷
    (codes "get" ∷ codes "r12" ∷ codes "r9" ∷ []) ∷
    (codes "out" ∷ codes "r12" ∷ []) ∷
    (codes "add" ∷ codes "r9" ∷ codes "r10" ∷ []) ∷
    (codes "jump" ∷ codes "@go" ∷ []) ∷ []

all_words : (entry count : ℕ) → entry < 2 ^ 64 → count < 2 ^ 64 → AllByRecursion IsLineOfWords (line_list entry count)
all_words entry count entry_small count_small = (
  numbered (codes "set") (codes "r4") entry refl refl entry_small,
  (
    fixed (codes "set") (codes "r7" ∷ codes "1" ∷ []) refl,
    (
      fixed (codes "@find") ([]) refl,
      (
        fixed (codes "makeknown") (codes "r2" ∷ codes "r4" ∷ codes "r7" ∷ []) refl,
        (
          fixed (codes "jumpz") (codes "r0" ∷ codes "@have" ∷ []) refl,
          (
            fixed (codes "jump") (codes "@find" ∷ []) refl,
            (
              fixed (codes "@have") ([]) refl,
              (
                fixed (codes "copy") (codes "r8" ∷ codes "r1" ∷ []) refl,
                (
                  numbered (codes "set") (codes "r6") count refl refl count_small,
                  (
                    fixed (codes "set") (codes "r10" ∷ codes "1" ∷ []) refl,
                    (
                      fixed (codes "@go") ([]) refl,
                      (
                        fixed (codes "jumpl") (codes "r9" ∷ codes "r6" ∷ codes "@more" ∷ []) refl,
                        (
                          fixed (codes "halt") ([]) refl,
                          (
                            fixed (codes "@more") ([]) refl,
                            (
                              fixed (codes "copy") (codes "r11" ∷ codes "r9" ∷ []) refl,
                              (
                                fixed (codes "add") (codes "r11" ∷ codes "r10" ∷ []) refl,
                                (
                                  fixed (codes "await") (codes "r8" ∷ codes "r11" ∷ []) refl,
                                  (
                                    fixed (codes "@read") ([]) refl,
                                    (
                                      fixed (codes "fetch") (codes "r8" ∷ codes "r9" ∷ codes "r10" ∷ codes "r9" ∷ []) refl,
                                      (
                                        fixed (codes "jumpz") (codes "r0" ∷ codes "@done" ∷ []) refl,
                                        (
                                          fixed (codes "jump") (codes "@read" ∷ []) refl,
                                          (
                                            fixed (codes "@done") ([]) refl,
                                            (
                                              fixed (codes "get") (codes "r12" ∷ codes "r9" ∷ []) refl,
                                              (
                                                fixed (codes "out") (codes "r12" ∷ []) refl,
                                                (
                                                  fixed (codes "add") (codes "r9" ∷ codes "r10" ∷ []) refl,
                                                  (
                                                    fixed (codes "jump") (codes "@go" ∷ []) refl,
                                                    tt,
                                                  ),
                                                ),
                                              ),
                                            ),
                                          ),
                                        ),
                                      ),
                                    ),
                                  ),
                                ),
                              ),
                            ),
                          ),
                        ),
                      ),
                    ),
                  ),
                ),
              ),
            ),
          ),
        ),
      ),
    ),
  ),
)

all_instrs : (entry count : ℕ) → entry < 2 ^ 64 → count < 2 ^ 64 → AllZip (IsInstr (line_list entry count)) (filter is_instruction (line_list entry count)) (collect_program entry count)
unfolding number_of
all_instrs entry count entry_small count_small =
    let all : List (List Word) = line_list entry count in (
      (refl, (register all (codes "r4") 4 refl, (number all entry entry_small, tt))),
      (
        (refl, (register all (codes "r7") 7 refl, (constant all (codes "1") 1 refl, tt))),
        (
          (refl, (register all (codes "r2") 2 refl, (register all (codes "r4") 4 refl, (register all (codes "r7") 7 refl, tt)))),
          (
            (refl, (register all (codes "r0") 0 refl, (name ((codes "set" ∷ codes "r4" ∷ decimal entry ∷ []) ∷ (codes "set" ∷ codes "r7" ∷ codes "1" ∷ []) ∷ (codes "@find" ∷ []) ∷ (codes "makeknown" ∷ codes "r2" ∷ codes "r4" ∷ codes "r7" ∷ []) ∷ (codes "jumpz" ∷ codes "r0" ∷ codes "@have" ∷ []) ∷ (codes "jump" ∷ codes "@find" ∷ []) ∷ []) ((codes "copy" ∷ codes "r8" ∷ codes "r1" ∷ []) ∷ (codes "set" ∷ codes "r6" ∷ decimal count ∷ []) ∷ (codes "set" ∷ codes "r10" ∷ codes "1" ∷ []) ∷ (codes "@go" ∷ []) ∷ (codes "jumpl" ∷ codes "r9" ∷ codes "r6" ∷ codes "@more" ∷ []) ∷ (codes "halt" ∷ []) ∷ (codes "@more" ∷ []) ∷ (codes "copy" ∷ codes "r11" ∷ codes "r9" ∷ []) ∷ (codes "add" ∷ codes "r11" ∷ codes "r10" ∷ []) ∷ (codes "await" ∷ codes "r8" ∷ codes "r11" ∷ []) ∷ (codes "@read" ∷ []) ∷ (codes "fetch" ∷ codes "r8" ∷ codes "r9" ∷ codes "r10" ∷ codes "r9" ∷ []) ∷ (codes "jumpz" ∷ codes "r0" ∷ codes "@done" ∷ []) ∷ (codes "jump" ∷ codes "@read" ∷ []) ∷ (codes "@done" ∷ []) ∷ (codes "get" ∷ codes "r12" ∷ codes "r9" ∷ []) ∷ (codes "out" ∷ codes "r12" ∷ []) ∷ (codes "add" ∷ codes "r9" ∷ codes "r10" ∷ []) ∷ (codes "jump" ∷ codes "@go" ∷ []) ∷ []) (codes "@have") refl, tt))),
            (
              (refl, (name ((codes "set" ∷ codes "r4" ∷ decimal entry ∷ []) ∷ (codes "set" ∷ codes "r7" ∷ codes "1" ∷ []) ∷ []) ((codes "makeknown" ∷ codes "r2" ∷ codes "r4" ∷ codes "r7" ∷ []) ∷ (codes "jumpz" ∷ codes "r0" ∷ codes "@have" ∷ []) ∷ (codes "jump" ∷ codes "@find" ∷ []) ∷ (codes "@have" ∷ []) ∷ (codes "copy" ∷ codes "r8" ∷ codes "r1" ∷ []) ∷ (codes "set" ∷ codes "r6" ∷ decimal count ∷ []) ∷ (codes "set" ∷ codes "r10" ∷ codes "1" ∷ []) ∷ (codes "@go" ∷ []) ∷ (codes "jumpl" ∷ codes "r9" ∷ codes "r6" ∷ codes "@more" ∷ []) ∷ (codes "halt" ∷ []) ∷ (codes "@more" ∷ []) ∷ (codes "copy" ∷ codes "r11" ∷ codes "r9" ∷ []) ∷ (codes "add" ∷ codes "r11" ∷ codes "r10" ∷ []) ∷ (codes "await" ∷ codes "r8" ∷ codes "r11" ∷ []) ∷ (codes "@read" ∷ []) ∷ (codes "fetch" ∷ codes "r8" ∷ codes "r9" ∷ codes "r10" ∷ codes "r9" ∷ []) ∷ (codes "jumpz" ∷ codes "r0" ∷ codes "@done" ∷ []) ∷ (codes "jump" ∷ codes "@read" ∷ []) ∷ (codes "@done" ∷ []) ∷ (codes "get" ∷ codes "r12" ∷ codes "r9" ∷ []) ∷ (codes "out" ∷ codes "r12" ∷ []) ∷ (codes "add" ∷ codes "r9" ∷ codes "r10" ∷ []) ∷ (codes "jump" ∷ codes "@go" ∷ []) ∷ []) (codes "@find") refl, tt)),
              (
                (refl, (register all (codes "r8") 8 refl, (register all (codes "r1") 1 refl, tt))),
                (
                  (refl, (register all (codes "r6") 6 refl, (number all count count_small, tt))),
                  (
                    (refl, (register all (codes "r10") 10 refl, (constant all (codes "1") 1 refl, tt))),
                    (
                      (refl, (register all (codes "r9") 9 refl, (register all (codes "r6") 6 refl, (name ((codes "set" ∷ codes "r4" ∷ decimal entry ∷ []) ∷ (codes "set" ∷ codes "r7" ∷ codes "1" ∷ []) ∷ (codes "@find" ∷ []) ∷ (codes "makeknown" ∷ codes "r2" ∷ codes "r4" ∷ codes "r7" ∷ []) ∷ (codes "jumpz" ∷ codes "r0" ∷ codes "@have" ∷ []) ∷ (codes "jump" ∷ codes "@find" ∷ []) ∷ (codes "@have" ∷ []) ∷ (codes "copy" ∷ codes "r8" ∷ codes "r1" ∷ []) ∷ (codes "set" ∷ codes "r6" ∷ decimal count ∷ []) ∷ (codes "set" ∷ codes "r10" ∷ codes "1" ∷ []) ∷ (codes "@go" ∷ []) ∷ (codes "jumpl" ∷ codes "r9" ∷ codes "r6" ∷ codes "@more" ∷ []) ∷ (codes "halt" ∷ []) ∷ []) ((codes "copy" ∷ codes "r11" ∷ codes "r9" ∷ []) ∷ (codes "add" ∷ codes "r11" ∷ codes "r10" ∷ []) ∷ (codes "await" ∷ codes "r8" ∷ codes "r11" ∷ []) ∷ (codes "@read" ∷ []) ∷ (codes "fetch" ∷ codes "r8" ∷ codes "r9" ∷ codes "r10" ∷ codes "r9" ∷ []) ∷ (codes "jumpz" ∷ codes "r0" ∷ codes "@done" ∷ []) ∷ (codes "jump" ∷ codes "@read" ∷ []) ∷ (codes "@done" ∷ []) ∷ (codes "get" ∷ codes "r12" ∷ codes "r9" ∷ []) ∷ (codes "out" ∷ codes "r12" ∷ []) ∷ (codes "add" ∷ codes "r9" ∷ codes "r10" ∷ []) ∷ (codes "jump" ∷ codes "@go" ∷ []) ∷ []) (codes "@more") refl, tt)))),
                      (
                        (refl, tt),
                        (
                          (refl, (register all (codes "r11") 11 refl, (register all (codes "r9") 9 refl, tt))),
                          (
                            (refl, (register all (codes "r11") 11 refl, (register all (codes "r10") 10 refl, tt))),
                            (
                              (refl, (register all (codes "r8") 8 refl, (register all (codes "r11") 11 refl, tt))),
                              (
                                (refl, (register all (codes "r8") 8 refl, (register all (codes "r9") 9 refl, (register all (codes "r10") 10 refl, (register all (codes "r9") 9 refl, tt))))),
                                (
                                  (refl, (register all (codes "r0") 0 refl, (name ((codes "set" ∷ codes "r4" ∷ decimal entry ∷ []) ∷ (codes "set" ∷ codes "r7" ∷ codes "1" ∷ []) ∷ (codes "@find" ∷ []) ∷ (codes "makeknown" ∷ codes "r2" ∷ codes "r4" ∷ codes "r7" ∷ []) ∷ (codes "jumpz" ∷ codes "r0" ∷ codes "@have" ∷ []) ∷ (codes "jump" ∷ codes "@find" ∷ []) ∷ (codes "@have" ∷ []) ∷ (codes "copy" ∷ codes "r8" ∷ codes "r1" ∷ []) ∷ (codes "set" ∷ codes "r6" ∷ decimal count ∷ []) ∷ (codes "set" ∷ codes "r10" ∷ codes "1" ∷ []) ∷ (codes "@go" ∷ []) ∷ (codes "jumpl" ∷ codes "r9" ∷ codes "r6" ∷ codes "@more" ∷ []) ∷ (codes "halt" ∷ []) ∷ (codes "@more" ∷ []) ∷ (codes "copy" ∷ codes "r11" ∷ codes "r9" ∷ []) ∷ (codes "add" ∷ codes "r11" ∷ codes "r10" ∷ []) ∷ (codes "await" ∷ codes "r8" ∷ codes "r11" ∷ []) ∷ (codes "@read" ∷ []) ∷ (codes "fetch" ∷ codes "r8" ∷ codes "r9" ∷ codes "r10" ∷ codes "r9" ∷ []) ∷ (codes "jumpz" ∷ codes "r0" ∷ codes "@done" ∷ []) ∷ (codes "jump" ∷ codes "@read" ∷ []) ∷ []) ((codes "get" ∷ codes "r12" ∷ codes "r9" ∷ []) ∷ (codes "out" ∷ codes "r12" ∷ []) ∷ (codes "add" ∷ codes "r9" ∷ codes "r10" ∷ []) ∷ (codes "jump" ∷ codes "@go" ∷ []) ∷ []) (codes "@done") refl, tt))),
                                  (
                                    (refl, (name ((codes "set" ∷ codes "r4" ∷ decimal entry ∷ []) ∷ (codes "set" ∷ codes "r7" ∷ codes "1" ∷ []) ∷ (codes "@find" ∷ []) ∷ (codes "makeknown" ∷ codes "r2" ∷ codes "r4" ∷ codes "r7" ∷ []) ∷ (codes "jumpz" ∷ codes "r0" ∷ codes "@have" ∷ []) ∷ (codes "jump" ∷ codes "@find" ∷ []) ∷ (codes "@have" ∷ []) ∷ (codes "copy" ∷ codes "r8" ∷ codes "r1" ∷ []) ∷ (codes "set" ∷ codes "r6" ∷ decimal count ∷ []) ∷ (codes "set" ∷ codes "r10" ∷ codes "1" ∷ []) ∷ (codes "@go" ∷ []) ∷ (codes "jumpl" ∷ codes "r9" ∷ codes "r6" ∷ codes "@more" ∷ []) ∷ (codes "halt" ∷ []) ∷ (codes "@more" ∷ []) ∷ (codes "copy" ∷ codes "r11" ∷ codes "r9" ∷ []) ∷ (codes "add" ∷ codes "r11" ∷ codes "r10" ∷ []) ∷ (codes "await" ∷ codes "r8" ∷ codes "r11" ∷ []) ∷ []) ((codes "fetch" ∷ codes "r8" ∷ codes "r9" ∷ codes "r10" ∷ codes "r9" ∷ []) ∷ (codes "jumpz" ∷ codes "r0" ∷ codes "@done" ∷ []) ∷ (codes "jump" ∷ codes "@read" ∷ []) ∷ (codes "@done" ∷ []) ∷ (codes "get" ∷ codes "r12" ∷ codes "r9" ∷ []) ∷ (codes "out" ∷ codes "r12" ∷ []) ∷ (codes "add" ∷ codes "r9" ∷ codes "r10" ∷ []) ∷ (codes "jump" ∷ codes "@go" ∷ []) ∷ []) (codes "@read") refl, tt)),
                                    (
                                      (refl, (register all (codes "r12") 12 refl, (register all (codes "r9") 9 refl, tt))),
                                      (
                                        (refl, (register all (codes "r12") 12 refl, tt)),
                                        (
                                          (refl, (register all (codes "r9") 9 refl, (register all (codes "r10") 10 refl, tt))),
                                          (
                                            (refl, (name ((codes "set" ∷ codes "r4" ∷ decimal entry ∷ []) ∷ (codes "set" ∷ codes "r7" ∷ codes "1" ∷ []) ∷ (codes "@find" ∷ []) ∷ (codes "makeknown" ∷ codes "r2" ∷ codes "r4" ∷ codes "r7" ∷ []) ∷ (codes "jumpz" ∷ codes "r0" ∷ codes "@have" ∷ []) ∷ (codes "jump" ∷ codes "@find" ∷ []) ∷ (codes "@have" ∷ []) ∷ (codes "copy" ∷ codes "r8" ∷ codes "r1" ∷ []) ∷ (codes "set" ∷ codes "r6" ∷ decimal count ∷ []) ∷ (codes "set" ∷ codes "r10" ∷ codes "1" ∷ []) ∷ []) ((codes "jumpl" ∷ codes "r9" ∷ codes "r6" ∷ codes "@more" ∷ []) ∷ (codes "halt" ∷ []) ∷ (codes "@more" ∷ []) ∷ (codes "copy" ∷ codes "r11" ∷ codes "r9" ∷ []) ∷ (codes "add" ∷ codes "r11" ∷ codes "r10" ∷ []) ∷ (codes "await" ∷ codes "r8" ∷ codes "r11" ∷ []) ∷ (codes "@read" ∷ []) ∷ (codes "fetch" ∷ codes "r8" ∷ codes "r9" ∷ codes "r10" ∷ codes "r9" ∷ []) ∷ (codes "jumpz" ∷ codes "r0" ∷ codes "@done" ∷ []) ∷ (codes "jump" ∷ codes "@read" ∷ []) ∷ (codes "@done" ∷ []) ∷ (codes "get" ∷ codes "r12" ∷ codes "r9" ∷ []) ∷ (codes "out" ∷ codes "r12" ∷ []) ∷ (codes "add" ∷ codes "r9" ∷ codes "r10" ∷ []) ∷ (codes "jump" ∷ codes "@go" ∷ []) ∷ []) (codes "@go") refl, tt)),
                                            tt,
                                          ),
                                        ),
                                      ),
                                    ),
                                  ),
                                ),
                              ),
                            ),
                          ),
                        ),
                      ),
                    ),
                  ),
                ),
              ),
            ),
          ),
        ),
      ),
    )

printed_is : (entry count : ℕ) → printed (line_list entry count) ≡ collect_bytes entry count
printed_is entry count = printed_text (line_list entry count)

pub collect_spells : (entry count : ℕ) → entry < 2 ^ 64 → count < 2 ^ 64 → (t : List ℕ) → t ≡ collect_bytes entry count → Spells (lines t) (collect_program entry count)
collect_spells entry count entry_small count_small t is =
    subst (λ z. Spells (lines z) (collect_program entry count)) (sym (is ∙ sym (printed_is entry count))) (spells (line_list entry count) (collect_program entry count) (all_words entry count entry_small count_small) (all_instrs entry count entry_small count_small) refl refl)
