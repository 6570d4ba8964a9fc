-- A class line, group of tests by group.
use Rattle.std.proofs.Common.{◌≡◌, ◌-◌, List, [], ◌∷◌, ◌++◌, Some, None, Ok, Err, refl, sym, ◌∙◌}
use Rattle.text_lines.specs.Faults.{Tests, first_code, or_else, judged}
use Rattle.text_lines.proofs.FirstFault.{first_code_append}
use Rattle.labels.specs.Label.{Label, ClassEntry}
use Rattle.labels.specs.Reading.{label_of_text}
use Rattle.config_text.specs.declared.fault.Code.{Code}
use Rattle.config_text.specs.Place.{Place}
use Rattle.config_text.specs.Rules.{Text, ClassText, fixed_tests, pool_tests, front_tests, entry_tests, class_text_tests, class_tests}

pub front_fixed : (w : ClassText) (c : Code) → first_code (fixed_tests w.keyword w.frames_word w.pages_word w.volume_word) ≡ Some c → first_code (front_tests w) ≡ Some c
unfolding front_tests
front_fixed w c e = rw (first_code_append, e) refl

pub front_pool : (w : ClassText) → first_code (fixed_tests w.keyword w.frames_word w.pages_word w.volume_word) ≡ None → first_code (front_tests w) ≡ first_code (pool_tests w.frames w.pages w.volume)
unfolding front_tests
front_pool w e = rw (first_code_append, e) refl

pub ruleset groups = (front_fixed, front_pool)

pub class_refused : (t : List ClassEntry) (q : Place) (ws : List Text) (w : ClassText) (c : Code) → class_tests t ws ≡ class_text_tests t w → first_code (front_tests w) ≡ Some c → judged (class_tests t ws) q ≡ Err c
class_refused t q ws w c e front = rw (e, first_code_append, front) refl

pub class_refused_later : (t : List ClassEntry) (q : Place) (ws : List Text) (w : ClassText) (c : Code) → class_tests t ws ≡ class_text_tests t w → first_code (front_tests w) ≡ None →
    first_code (entry_tests t w.name (label_of_text w.label)) ≡ Some c → judged (class_tests t ws) q ≡ Err c
class_refused_later t q ws w c e front later = rw (e, first_code_append, front, later) refl

pub class_taken : (t : List ClassEntry) (q : Place) (ws : List Text) (w : ClassText) → class_tests t ws ≡ class_text_tests t w → first_code (front_tests w) ≡ None →
    first_code (entry_tests t w.name (label_of_text w.label)) ≡ None → judged (class_tests t ws) q ≡ Ok q
class_taken t q ws w e front later = rw (e, first_code_append, front, later) refl
