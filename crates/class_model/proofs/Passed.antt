-- What holds where the private tests of the gates pass, by the operands of a request.
use Rattle.std.proofs.Common.{ℕ, ◌≡◌, ◌<◌, List, length, Some, None}
use Rattle.labels.specs.Label.{ClassEntry}
use Rattle.policy.specs.Known.{Known}
use Rattle.policy.specs.Verdict.{first_broken}
use Rattle.policy.specs.Private.{create_tests, fetch_tests, update_tests, InBounds as PolicyBounds}
use Rattle.policy.proofs.Passed.{usable_known, create_entry, create_class, create_brackets, create_size, fetch_bounds as fetch_within, update_bounds as update_within}
use Rattle.class_model.specs.Process.{Process, known_at, usable_at}
use Rattle.class_model.specs.Next.{KnowsClasses, InBounds, IsChild}
pub use Rattle.policy.proofs.Passed.{make_known_entry, make_known_mode, delete_entry}

-- the class of what may be used is known
pub usable_class : (n : ℕ) (p : Process) (segno : ℕ) (k : Known) → KnowsClasses n p → usable_at p segno ≡ Some k → k.class < n
usable_class n p segno k knows e = knows segno k (usable_known (known_at p segno) k e)

within : (k : Known) (offset count pad : ℕ) → PolicyBounds k offset count pad → InBounds k offset count pad
within k offset count pad b = record { some = b.some; segment = b.segment; in_pad = b.in_pad }

pub fetch_bounds : (ring offset count pad : ℕ) (k : Known) → first_broken (fetch_tests ring offset count pad k) ≡ None → InBounds k offset count pad
fetch_bounds ring offset count pad k none = within k offset count pad (fetch_within ring offset count pad k none)

pub update_bounds : (ring offset count pad : ℕ) (k : Known) → first_broken (update_tests ring offset count pad k) ≡ None → InBounds k offset count pad
update_bounds ring offset count pad k none = within k offset count pad (update_within ring offset count pad k none)

-- the tests of create: the operands are those of a child
pub create_child : (table : List ClassEntry) (ring entry class brackets size : ℕ) (k : Known) →
    first_broken (create_tests table ring entry class brackets size k) ≡ None → IsChild (length table) entry class brackets size
create_child table ring entry class brackets size k e =
    let b = create_brackets table ring entry class brackets size k e in
    let z = create_size table ring entry class brackets size k e in
    record {
      entry = create_entry table ring entry class brackets size k e;
      in_table = create_class table ring entry class brackets size k e;
      brackets = b.0;
      ordered = b.1;
      some = z.0;
      limit = z.1;
    }
