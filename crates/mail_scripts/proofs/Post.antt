-- The text of a Post script spells its program.
use Rattle.std.proofs.Common.{◌≡◌, ℕ, ◌<◌, ◌^◌, List, [], ◌∷◌, refl, subst, sym, ◌∙◌}
use Rattle.std.specs.Prelude.{codes, filter}
use Rattle.std.specs.Fmt.{decimal}
use Rattle.std.specs.List.{AllZip, AllByRecursion}
use Rattle.text_lines.specs.Lines.{lines}
use Rattle.text_lines.specs.Number.{number_of}
use Rattle.text_lines.specs.Printed.{printed, IsLineOfWords}
use Rattle.script_asm.specs.Operand.{Word}
use Rattle.script_asm.specs.Script.{is_instruction}
use Rattle.script_asm.specs.Spelling.{IsInstr, Spells}
use Rattle.mail_scripts.specs.Programs.{post_program}
use Rattle.mail_scripts.specs.Texts.{post_bytes}
use Rattle.mail_scripts.proofs.Spelled.{fixed, numbered, register, constant, number, name, printed_text, spells}

-- the words of its lines
abbrev line_list : (entry size first count : ℕ) → List (List Word)
line_list entry size first count =
    (codes "set" ∷ codes "r4" ∷ decimal entry ∷ []) ∷
    (codes "set" ∷ codes "r7" ∷ codes "3" ∷ []) ∷
    (codes "@find" ∷ []) ∷
    (codes "makeknown" ∷ codes "r2" ∷ codes "r4" ∷ codes "r7" ∷ []) ∷
    (codes "jumpz" ∷ codes "r0" ∷ codes "@have" ∷ []) ∷
    (codes "jump" ∷ codes "@find" ∷ []) ∷
    (codes "@have" ∷ []) ∷
    (codes "copy" ∷ codes "r8" ∷ codes "r1" ∷ []) ∷
    (codes "set" ∷ codes "r5" ∷ decimal size ∷ []) ∷
    (codes "set" ∷ codes "r6" ∷ decimal count ∷ []) ∷
    (codes "set" ∷ codes "r9" ∷ decimal first ∷ []) ∷
    (codes "set" ∷ codes "r10" ∷ codes "1" ∷ []) ∷
    (codes "@go" ∷ []) ∷
    (codes "jumpz" ∷ codes "r6" ∷ codes "@end" ∷ []) ∷
    (codes "ticket" ∷ codes "r8" ∷ []) ∷
    (codes "copy" ∷ codes "r11" ∷ codes "r1" ∷ []) ∷
    (codes "jumpl" ∷ codes "r11" ∷ codes "r5" ∷ codes "@room" ∷ []) ∷
    (codes "jump" ∷ codes "@end" ∷ []) ∷
    (codes "@room" ∷ []) ∷
    (codes "await" ∷ codes "r8" ∷ codes "r11" ∷ []) ∷
    (codes "put" ∷ codes "r9" ∷ codes "r2" ∷ []) ∷
    (codes "@try" ∷ []) ∷
    (codes "update" ∷ codes "r8" ∷ codes "r11" ∷ codes "r10" ∷ codes "r2" ∷ []) ∷
    (codes "jumpz" ∷ codes "r0" ∷ codes "@sent" ∷ []) ∷
    (codes "jump" ∷ codes "@try" ∷ []) ∷
    (codes "@sent" ∷ []) ∷
    (codes "advance" ∷ codes "r8" ∷ []) ∷
    (codes "add" ∷ codes "r9" ∷ codes "r10" ∷ []) ∷
    (codes "sub" ∷ codes "r6" ∷ codes "r10" ∷ []) ∷
    (codes "jump" ∷ codes "@go" ∷ []) ∷
    (codes "@end" ∷ []) ∷
    (codes "halt" ∷ []) ∷ []

all_words : (entry size first count : ℕ) → entry < 2 ^ 64 → size < 2 ^ 64 → first < 2 ^ 64 → count < 2 ^ 64 → AllByRecursion IsLineOfWords (line_list entry size first count)
all_words entry size first count entry_small size_small first_small count_small = (
  numbered (codes "set") (codes "r4") entry refl refl entry_small,
  (
    fixed (codes "set") (codes "r7" ∷ codes "3" ∷ []) refl,
    (
      fixed (codes "@find") ([]) refl,
      (
        fixed (codes "makeknown") (codes "r2" ∷ codes "r4" ∷ codes "r7" ∷ []) refl,
        (
          fixed (codes "jumpz") (codes "r0" ∷ codes "@have" ∷ []) refl,
          (
            fixed (codes "jump") (codes "@find" ∷ []) refl,
            (
              fixed (codes "@have") ([]) refl,
              (
                fixed (codes "copy") (codes "r8" ∷ codes "r1" ∷ []) refl,
                (
                  numbered (codes "set") (codes "r5") size refl refl size_small,
                  (
                    numbered (codes "set") (codes "r6") count refl refl count_small,
                    (
                      numbered (codes "set") (codes "r9") first refl refl first_small,
                      (
                        fixed (codes "set") (codes "r10" ∷ codes "1" ∷ []) refl,
                        (
                          fixed (codes "@go") ([]) refl,
                          (
                            fixed (codes "jumpz") (codes "r6" ∷ codes "@end" ∷ []) refl,
                            (
                              fixed (codes "ticket") (codes "r8" ∷ []) refl,
                              (
                                fixed (codes "copy") (codes "r11" ∷ codes "r1" ∷ []) refl,
                                (
                                  fixed (codes "jumpl") (codes "r11" ∷ codes "r5" ∷ codes "@room" ∷ []) refl,
                                  (
                                    fixed (codes "jump") (codes "@end" ∷ []) refl,
                                    (
                                      fixed (codes "@room") ([]) refl,
                                      (
                                        fixed (codes "await") (codes "r8" ∷ codes "r11" ∷ []) refl,
                                        (
                                          fixed (codes "put") (codes "r9" ∷ codes "r2" ∷ []) refl,
                                          (
                                            fixed (codes "@try") ([]) refl,
                                            (
                                              fixed (codes "update") (codes "r8" ∷ codes "r11" ∷ codes "r10" ∷ codes "r2" ∷ []) refl,
                                              (
                                                fixed (codes "jumpz") (codes "r0" ∷ codes "@sent" ∷ []) refl,
                                                (
                                                  fixed (codes "jump") (codes "@try" ∷ []) refl,
                                                  (
                                                    fixed (codes "@sent") ([]) refl,
                                                    (
                                                      fixed (codes "advance") (codes "r8" ∷ []) refl,
                                                      (
                                                        fixed (codes "add") (codes "r9" ∷ codes "r10" ∷ []) refl,
                                                        (
                                                          fixed (codes "sub") (codes "r6" ∷ codes "r10" ∷ []) refl,
                                                          (
                                                            fixed (codes "jump") (codes "@go" ∷ []) refl,
                                                            (
                                                              fixed (codes "@end") ([]) refl,
                                                              (
                                                                fixed (codes "halt") ([]) refl,
                                                                tt,
                                                              ),
                                                            ),
                                                          ),
                                                        ),
                                                      ),
                                                    ),
                                                  ),
                                                ),
                                              ),
                                            ),
                                          ),
                                        ),
                                      ),
                                    ),
                                  ),
                                ),
                              ),
                            ),
                          ),
                        ),
                      ),
                    ),
                  ),
                ),
              ),
            ),
          ),
        ),
      ),
    ),
  ),
)

all_instrs : (entry size first count : ℕ) → entry < 2 ^ 64 → size < 2 ^ 64 → first < 2 ^ 64 → count < 2 ^ 64 → AllZip (IsInstr (line_list entry size first count)) (filter is_instruction (line_list entry size first count)) (post_program entry size first count)
unfolding number_of
all_instrs entry size first count entry_small size_small first_small count_small =
    let all : List (List Word) = line_list entry size first count in (
      (refl, (register all (codes "r4") 4 refl, (number all entry entry_small, tt))),
      (
        (refl, (register all (codes "r7") 7 refl, (constant all (codes "3") 3 refl, tt))),
        (
          (refl, (register all (codes "r2") 2 refl, (register all (codes "r4") 4 refl, (register all (codes "r7") 7 refl, tt)))),
          (
            (refl, (register all (codes "r0") 0 refl, (name ((codes "set" ∷ codes "r4" ∷ decimal entry ∷ []) ∷ (codes "set" ∷ codes "r7" ∷ codes "3" ∷ []) ∷ (codes "@find" ∷ []) ∷ (codes "makeknown" ∷ codes "r2" ∷ codes "r4" ∷ codes "r7" ∷ []) ∷ (codes "jumpz" ∷ codes "r0" ∷ codes "@have" ∷ []) ∷ (codes "jump" ∷ codes "@find" ∷ []) ∷ []) ((codes "copy" ∷ codes "r8" ∷ codes "r1" ∷ []) ∷ (codes "set" ∷ codes "r5" ∷ decimal size ∷ []) ∷ (codes "set" ∷ codes "r6" ∷ decimal count ∷ []) ∷ (codes "set" ∷ codes "r9" ∷ decimal first ∷ []) ∷ (codes "set" ∷ codes "r10" ∷ codes "1" ∷ []) ∷ (codes "@go" ∷ []) ∷ (codes "jumpz" ∷ codes "r6" ∷ codes "@end" ∷ []) ∷ (codes "ticket" ∷ codes "r8" ∷ []) ∷ (codes "copy" ∷ codes "r11" ∷ codes "r1" ∷ []) ∷ (codes "jumpl" ∷ codes "r11" ∷ codes "r5" ∷ codes "@room" ∷ []) ∷ (codes "jump" ∷ codes "@end" ∷ []) ∷ (codes "@room" ∷ []) ∷ (codes "await" ∷ codes "r8" ∷ codes "r11" ∷ []) ∷ (codes "put" ∷ codes "r9" ∷ codes "r2" ∷ []) ∷ (codes "@try" ∷ []) ∷ (codes "update" ∷ codes "r8" ∷ codes "r11" ∷ codes "r10" ∷ codes "r2" ∷ []) ∷ (codes "jumpz" ∷ codes "r0" ∷ codes "@sent" ∷ []) ∷ (codes "jump" ∷ codes "@try" ∷ []) ∷ (codes "@sent" ∷ []) ∷ (codes "advance" ∷ codes "r8" ∷ []) ∷ (codes "add" ∷ codes "r9" ∷ codes "r10" ∷ []) ∷ (codes "sub" ∷ codes "r6" ∷ codes "r10" ∷ []) ∷ (codes "jump" ∷ codes "@go" ∷ []) ∷ (codes "@end" ∷ []) ∷ (codes "halt" ∷ []) ∷ []) (codes "@have") refl, tt))),
            (
              (refl, (name ((codes "set" ∷ codes "r4" ∷ decimal entry ∷ []) ∷ (codes "set" ∷ codes "r7" ∷ codes "3" ∷ []) ∷ []) ((codes "makeknown" ∷ codes "r2" ∷ codes "r4" ∷ codes "r7" ∷ []) ∷ (codes "jumpz" ∷ codes "r0" ∷ codes "@have" ∷ []) ∷ (codes "jump" ∷ codes "@find" ∷ []) ∷ (codes "@have" ∷ []) ∷ (codes "copy" ∷ codes "r8" ∷ codes "r1" ∷ []) ∷ (codes "set" ∷ codes "r5" ∷ decimal size ∷ []) ∷ (codes "set" ∷ codes "r6" ∷ decimal count ∷ []) ∷ (codes "set" ∷ codes "r9" ∷ decimal first ∷ []) ∷ (codes "set" ∷ codes "r10" ∷ codes "1" ∷ []) ∷ (codes "@go" ∷ []) ∷ (codes "jumpz" ∷ codes "r6" ∷ codes "@end" ∷ []) ∷ (codes "ticket" ∷ codes "r8" ∷ []) ∷ (codes "copy" ∷ codes "r11" ∷ codes "r1" ∷ []) ∷ (codes "jumpl" ∷ codes "r11" ∷ codes "r5" ∷ codes "@room" ∷ []) ∷ (codes "jump" ∷ codes "@end" ∷ []) ∷ (codes "@room" ∷ []) ∷ (codes "await" ∷ codes "r8" ∷ codes "r11" ∷ []) ∷ (codes "put" ∷ codes "r9" ∷ codes "r2" ∷ []) ∷ (codes "@try" ∷ []) ∷ (codes "update" ∷ codes "r8" ∷ codes "r11" ∷ codes "r10" ∷ codes "r2" ∷ []) ∷ (codes "jumpz" ∷ codes "r0" ∷ codes "@sent" ∷ []) ∷ (codes "jump" ∷ codes "@try" ∷ []) ∷ (codes "@sent" ∷ []) ∷ (codes "advance" ∷ codes "r8" ∷ []) ∷ (codes "add" ∷ codes "r9" ∷ codes "r10" ∷ []) ∷ (codes "sub" ∷ codes "r6" ∷ codes "r10" ∷ []) ∷ (codes "jump" ∷ codes "@go" ∷ []) ∷ (codes "@end" ∷ []) ∷ (codes "halt" ∷ []) ∷ []) (codes "@find") refl, tt)),
              (
                (refl, (register all (codes "r8") 8 refl, (register all (codes "r1") 1 refl, tt))),
                (
                  (refl, (register all (codes "r5") 5 refl, (number all size size_small, tt))),
                  (
                    (refl, (register all (codes "r6") 6 refl, (number all count count_small, tt))),
                    (
                      (refl, (register all (codes "r9") 9 refl, (number all first first_small, tt))),
                      (
                        (refl, (register all (codes "r10") 10 refl, (constant all (codes "1") 1 refl, tt))),
                        (
                          (refl, (register all (codes "r6") 6 refl, (name ((codes "set" ∷ codes "r4" ∷ decimal entry ∷ []) ∷ (codes "set" ∷ codes "r7" ∷ codes "3" ∷ []) ∷ (codes "@find" ∷ []) ∷ (codes "makeknown" ∷ codes "r2" ∷ codes "r4" ∷ codes "r7" ∷ []) ∷ (codes "jumpz" ∷ codes "r0" ∷ codes "@have" ∷ []) ∷ (codes "jump" ∷ codes "@find" ∷ []) ∷ (codes "@have" ∷ []) ∷ (codes "copy" ∷ codes "r8" ∷ codes "r1" ∷ []) ∷ (codes "set" ∷ codes "r5" ∷ decimal size ∷ []) ∷ (codes "set" ∷ codes "r6" ∷ decimal count ∷ []) ∷ (codes "set" ∷ codes "r9" ∷ decimal first ∷ []) ∷ (codes "set" ∷ codes "r10" ∷ codes "1" ∷ []) ∷ (codes "@go" ∷ []) ∷ (codes "jumpz" ∷ codes "r6" ∷ codes "@end" ∷ []) ∷ (codes "ticket" ∷ codes "r8" ∷ []) ∷ (codes "copy" ∷ codes "r11" ∷ codes "r1" ∷ []) ∷ (codes "jumpl" ∷ codes "r11" ∷ codes "r5" ∷ codes "@room" ∷ []) ∷ (codes "jump" ∷ codes "@end" ∷ []) ∷ (codes "@room" ∷ []) ∷ (codes "await" ∷ codes "r8" ∷ codes "r11" ∷ []) ∷ (codes "put" ∷ codes "r9" ∷ codes "r2" ∷ []) ∷ (codes "@try" ∷ []) ∷ (codes "update" ∷ codes "r8" ∷ codes "r11" ∷ codes "r10" ∷ codes "r2" ∷ []) ∷ (codes "jumpz" ∷ codes "r0" ∷ codes "@sent" ∷ []) ∷ (codes "jump" ∷ codes "@try" ∷ []) ∷ (codes "@sent" ∷ []) ∷ (codes "advance" ∷ codes "r8" ∷ []) ∷ (codes "add" ∷ codes "r9" ∷ codes "r10" ∷ []) ∷ (codes "sub" ∷ codes "r6" ∷ codes "r10" ∷ []) ∷ (codes "jump" ∷ codes "@go" ∷ []) ∷ []) ((codes "halt" ∷ []) ∷ []) (codes "@end") refl, tt))),
                          (
                            (refl, (register all (codes "r8") 8 refl, tt)),
                            (
                              (refl, (register all (codes "r11") 11 refl, (register all (codes "r1") 1 refl, tt))),
                              (
                                (refl, (register all (codes "r11") 11 refl, (register all (codes "r5") 5 refl, (name ((codes "set" ∷ codes "r4" ∷ decimal entry ∷ []) ∷ (codes "set" ∷ codes "r7" ∷ codes "3" ∷ []) ∷ (codes "@find" ∷ []) ∷ (codes "makeknown" ∷ codes "r2" ∷ codes "r4" ∷ codes "r7" ∷ []) ∷ (codes "jumpz" ∷ codes "r0" ∷ codes "@have" ∷ []) ∷ (codes "jump" ∷ codes "@find" ∷ []) ∷ (codes "@have" ∷ []) ∷ (codes "copy" ∷ codes "r8" ∷ codes "r1" ∷ []) ∷ (codes "set" ∷ codes "r5" ∷ decimal size ∷ []) ∷ (codes "set" ∷ codes "r6" ∷ decimal count ∷ []) ∷ (codes "set" ∷ codes "r9" ∷ decimal first ∷ []) ∷ (codes "set" ∷ codes "r10" ∷ codes "1" ∷ []) ∷ (codes "@go" ∷ []) ∷ (codes "jumpz" ∷ codes "r6" ∷ codes "@end" ∷ []) ∷ (codes "ticket" ∷ codes "r8" ∷ []) ∷ (codes "copy" ∷ codes "r11" ∷ codes "r1" ∷ []) ∷ (codes "jumpl" ∷ codes "r11" ∷ codes "r5" ∷ codes "@room" ∷ []) ∷ (codes "jump" ∷ codes "@end" ∷ []) ∷ []) ((codes "await" ∷ codes "r8" ∷ codes "r11" ∷ []) ∷ (codes "put" ∷ codes "r9" ∷ codes "r2" ∷ []) ∷ (codes "@try" ∷ []) ∷ (codes "update" ∷ codes "r8" ∷ codes "r11" ∷ codes "r10" ∷ codes "r2" ∷ []) ∷ (codes "jumpz" ∷ codes "r0" ∷ codes "@sent" ∷ []) ∷ (codes "jump" ∷ codes "@try" ∷ []) ∷ (codes "@sent" ∷ []) ∷ (codes "advance" ∷ codes "r8" ∷ []) ∷ (codes "add" ∷ codes "r9" ∷ codes "r10" ∷ []) ∷ (codes "sub" ∷ codes "r6" ∷ codes "r10" ∷ []) ∷ (codes "jump" ∷ codes "@go" ∷ []) ∷ (codes "@end" ∷ []) ∷ (codes "halt" ∷ []) ∷ []) (codes "@room") refl, tt)))),
                                (
                                  (refl, (name ((codes "set" ∷ codes "r4" ∷ decimal entry ∷ []) ∷ (codes "set" ∷ codes "r7" ∷ codes "3" ∷ []) ∷ (codes "@find" ∷ []) ∷ (codes "makeknown" ∷ codes "r2" ∷ codes "r4" ∷ codes "r7" ∷ []) ∷ (codes "jumpz" ∷ codes "r0" ∷ codes "@have" ∷ []) ∷ (codes "jump" ∷ codes "@find" ∷ []) ∷ (codes "@have" ∷ []) ∷ (codes "copy" ∷ codes "r8" ∷ codes "r1" ∷ []) ∷ (codes "set" ∷ codes "r5" ∷ decimal size ∷ []) ∷ (codes "set" ∷ codes "r6" ∷ decimal count ∷ []) ∷ (codes "set" ∷ codes "r9" ∷ decimal first ∷ []) ∷ (codes "set" ∷ codes "r10" ∷ codes "1" ∷ []) ∷ (codes "@go" ∷ []) ∷ (codes "jumpz" ∷ codes "r6" ∷ codes "@end" ∷ []) ∷ (codes "ticket" ∷ codes "r8" ∷ []) ∷ (codes "copy" ∷ codes "r11" ∷ codes "r1" ∷ []) ∷ (codes "jumpl" ∷ codes "r11" ∷ codes "r5" ∷ codes "@room" ∷ []) ∷ (codes "jump" ∷ codes "@end" ∷ []) ∷ (codes "@room" ∷ []) ∷ (codes "await" ∷ codes "r8" ∷ codes "r11" ∷ []) ∷ (codes "put" ∷ codes "r9" ∷ codes "r2" ∷ []) ∷ (codes "@try" ∷ []) ∷ (codes "update" ∷ codes "r8" ∷ codes "r11" ∷ codes "r10" ∷ codes "r2" ∷ []) ∷ (codes "jumpz" ∷ codes "r0" ∷ codes "@sent" ∷ []) ∷ (codes "jump" ∷ codes "@try" ∷ []) ∷ (codes "@sent" ∷ []) ∷ (codes "advance" ∷ codes "r8" ∷ []) ∷ (codes "add" ∷ codes "r9" ∷ codes "r10" ∷ []) ∷ (codes "sub" ∷ codes "r6" ∷ codes "r10" ∷ []) ∷ (codes "jump" ∷ codes "@go" ∷ []) ∷ []) ((codes "halt" ∷ []) ∷ []) (codes "@end") refl, tt)),
                                  (
                                    (refl, (register all (codes "r8") 8 refl, (register all (codes "r11") 11 refl, tt))),
                                    (
                                      (refl, (register all (codes "r9") 9 refl, (register all (codes "r2") 2 refl, tt))),
                                      (
                                        (refl, (register all (codes "r8") 8 refl, (register all (codes "r11") 11 refl, (register all (codes "r10") 10 refl, (register all (codes "r2") 2 refl, tt))))),
                                        (
                                          (refl, (register all (codes "r0") 0 refl, (name ((codes "set" ∷ codes "r4" ∷ decimal entry ∷ []) ∷ (codes "set" ∷ codes "r7" ∷ codes "3" ∷ []) ∷ (codes "@find" ∷ []) ∷ (codes "makeknown" ∷ codes "r2" ∷ codes "r4" ∷ codes "r7" ∷ []) ∷ (codes "jumpz" ∷ codes "r0" ∷ codes "@have" ∷ []) ∷ (codes "jump" ∷ codes "@find" ∷ []) ∷ (codes "@have" ∷ []) ∷ (codes "copy" ∷ codes "r8" ∷ codes "r1" ∷ []) ∷ (codes "set" ∷ codes "r5" ∷ decimal size ∷ []) ∷ (codes "set" ∷ codes "r6" ∷ decimal count ∷ []) ∷ (codes "set" ∷ codes "r9" ∷ decimal first ∷ []) ∷ (codes "set" ∷ codes "r10" ∷ codes "1" ∷ []) ∷ (codes "@go" ∷ []) ∷ (codes "jumpz" ∷ codes "r6" ∷ codes "@end" ∷ []) ∷ (codes "ticket" ∷ codes "r8" ∷ []) ∷ (codes "copy" ∷ codes "r11" ∷ codes "r1" ∷ []) ∷ (codes "jumpl" ∷ codes "r11" ∷ codes "r5" ∷ codes "@room" ∷ []) ∷ (codes "jump" ∷ codes "@end" ∷ []) ∷ (codes "@room" ∷ []) ∷ (codes "await" ∷ codes "r8" ∷ codes "r11" ∷ []) ∷ (codes "put" ∷ codes "r9" ∷ codes "r2" ∷ []) ∷ (codes "@try" ∷ []) ∷ (codes "update" ∷ codes "r8" ∷ codes "r11" ∷ codes "r10" ∷ codes "r2" ∷ []) ∷ (codes "jumpz" ∷ codes "r0" ∷ codes "@sent" ∷ []) ∷ (codes "jump" ∷ codes "@try" ∷ []) ∷ []) ((codes "advance" ∷ codes "r8" ∷ []) ∷ (codes "add" ∷ codes "r9" ∷ codes "r10" ∷ []) ∷ (codes "sub" ∷ codes "r6" ∷ codes "r10" ∷ []) ∷ (codes "jump" ∷ codes "@go" ∷ []) ∷ (codes "@end" ∷ []) ∷ (codes "halt" ∷ []) ∷ []) (codes "@sent") refl, tt))),
                                          (
                                            (refl, (name ((codes "set" ∷ codes "r4" ∷ decimal entry ∷ []) ∷ (codes "set" ∷ codes "r7" ∷ codes "3" ∷ []) ∷ (codes "@find" ∷ []) ∷ (codes "makeknown" ∷ codes "r2" ∷ codes "r4" ∷ codes "r7" ∷ []) ∷ (codes "jumpz" ∷ codes "r0" ∷ codes "@have" ∷ []) ∷ (codes "jump" ∷ codes "@find" ∷ []) ∷ (codes "@have" ∷ []) ∷ (codes "copy" ∷ codes "r8" ∷ codes "r1" ∷ []) ∷ (codes "set" ∷ codes "r5" ∷ decimal size ∷ []) ∷ (codes "set" ∷ codes "r6" ∷ decimal count ∷ []) ∷ (codes "set" ∷ codes "r9" ∷ decimal first ∷ []) ∷ (codes "set" ∷ codes "r10" ∷ codes "1" ∷ []) ∷ (codes "@go" ∷ []) ∷ (codes "jumpz" ∷ codes "r6" ∷ codes "@end" ∷ []) ∷ (codes "ticket" ∷ codes "r8" ∷ []) ∷ (codes "copy" ∷ codes "r11" ∷ codes "r1" ∷ []) ∷ (codes "jumpl" ∷ codes "r11" ∷ codes "r5" ∷ codes "@room" ∷ []) ∷ (codes "jump" ∷ codes "@end" ∷ []) ∷ (codes "@room" ∷ []) ∷ (codes "await" ∷ codes "r8" ∷ codes "r11" ∷ []) ∷ (codes "put" ∷ codes "r9" ∷ codes "r2" ∷ []) ∷ []) ((codes "update" ∷ codes "r8" ∷ codes "r11" ∷ codes "r10" ∷ codes "r2" ∷ []) ∷ (codes "jumpz" ∷ codes "r0" ∷ codes "@sent" ∷ []) ∷ (codes "jump" ∷ codes "@try" ∷ []) ∷ (codes "@sent" ∷ []) ∷ (codes "advance" ∷ codes "r8" ∷ []) ∷ (codes "add" ∷ codes "r9" ∷ codes "r10" ∷ []) ∷ (codes "sub" ∷ codes "r6" ∷ codes "r10" ∷ []) ∷ (codes "jump" ∷ codes "@go" ∷ []) ∷ (codes "@end" ∷ []) ∷ (codes "halt" ∷ []) ∷ []) (codes "@try") refl, tt)),
                                            (
                                              (refl, (register all (codes "r8") 8 refl, tt)),
                                              (
                                                (refl, (register all (codes "r9") 9 refl, (register all (codes "r10") 10 refl, tt))),
                                                (
                                                  (refl, (register all (codes "r6") 6 refl, (register all (codes "r10") 10 refl, tt))),
                                                  (
                                                    (refl, (name ((codes "set" ∷ codes "r4" ∷ decimal entry ∷ []) ∷ (codes "set" ∷ codes "r7" ∷ codes "3" ∷ []) ∷ (codes "@find" ∷ []) ∷ (codes "makeknown" ∷ codes "r2" ∷ codes "r4" ∷ codes "r7" ∷ []) ∷ (codes "jumpz" ∷ codes "r0" ∷ codes "@have" ∷ []) ∷ (codes "jump" ∷ codes "@find" ∷ []) ∷ (codes "@have" ∷ []) ∷ (codes "copy" ∷ codes "r8" ∷ codes "r1" ∷ []) ∷ (codes "set" ∷ codes "r5" ∷ decimal size ∷ []) ∷ (codes "set" ∷ codes "r6" ∷ decimal count ∷ []) ∷ (codes "set" ∷ codes "r9" ∷ decimal first ∷ []) ∷ (codes "set" ∷ codes "r10" ∷ codes "1" ∷ []) ∷ []) ((codes "jumpz" ∷ codes "r6" ∷ codes "@end" ∷ []) ∷ (codes "ticket" ∷ codes "r8" ∷ []) ∷ (codes "copy" ∷ codes "r11" ∷ codes "r1" ∷ []) ∷ (codes "jumpl" ∷ codes "r11" ∷ codes "r5" ∷ codes "@room" ∷ []) ∷ (codes "jump" ∷ codes "@end" ∷ []) ∷ (codes "@room" ∷ []) ∷ (codes "await" ∷ codes "r8" ∷ codes "r11" ∷ []) ∷ (codes "put" ∷ codes "r9" ∷ codes "r2" ∷ []) ∷ (codes "@try" ∷ []) ∷ (codes "update" ∷ codes "r8" ∷ codes "r11" ∷ codes "r10" ∷ codes "r2" ∷ []) ∷ (codes "jumpz" ∷ codes "r0" ∷ codes "@sent" ∷ []) ∷ (codes "jump" ∷ codes "@try" ∷ []) ∷ (codes "@sent" ∷ []) ∷ (codes "advance" ∷ codes "r8" ∷ []) ∷ (codes "add" ∷ codes "r9" ∷ codes "r10" ∷ []) ∷ (codes "sub" ∷ codes "r6" ∷ codes "r10" ∷ []) ∷ (codes "jump" ∷ codes "@go" ∷ []) ∷ (codes "@end" ∷ []) ∷ (codes "halt" ∷ []) ∷ []) (codes "@go") refl, tt)),
                                                    (
                                                      (refl, tt),
                                                      tt,
                                                    ),
                                                  ),
                                                ),
                                              ),
                                            ),
                                          ),
                                        ),
                                      ),
                                    ),
                                  ),
                                ),
                              ),
                            ),
                          ),
                        ),
                      ),
                    ),
                  ),
                ),
              ),
            ),
          ),
        ),
      ),
    )

printed_is : (entry size first count : ℕ) → printed (line_list entry size first count) ≡ post_bytes entry size first count
printed_is entry size first count = printed_text (line_list entry size first count)

pub post_spells : (entry size first count : ℕ) → entry < 2 ^ 64 → size < 2 ^ 64 → first < 2 ^ 64 → count < 2 ^ 64 → (t : List ℕ) → t ≡ post_bytes entry size first count → Spells (lines t) (post_program entry size first count)
post_spells entry size first count entry_small size_small first_small count_small t is =
    subst (λ z. Spells (lines z) (post_program entry size first count)) (sym (is ∙ sym (printed_is entry size first count))) (spells (line_list entry size first count) (post_program entry size first count) (all_words entry size first count entry_small size_small first_small count_small) (all_instrs entry size first count entry_small size_small first_small count_small) refl refl)
