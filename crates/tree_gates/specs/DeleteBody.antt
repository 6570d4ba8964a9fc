-- What is left of the body of delete.
use Rattle.std.specs.Prelude.{◌-◌}
use Rattle.words_layout.specs.Words.{HomeOf, EntryOf, FrameTenant, PageTenant}
use Rattle.words_layout.specs.Coding.{pack_home}
use Rattle.words_layout.specs.declared.coding.Home.TheVariants as H
use Rattle.policy.specs.Outcome.{Outcome, Value}
use Rattle.turns.specs.Bodies.{Inner, Outer}
use Rattle.gate_parts.specs.Bodies.{came_to}
use Rattle.gate_parts.specs.Taken.{page_of}
use Rattle.tree_gates.specs.Tree.{delete_body, check_entries, free_page, delete_child}
use Rattle.tree_gates.specs.declared.delete_body.Rest.{Rest}
use Rattle.tree_gates.specs.declared.delete_body.Rest.TheVariants as R
use Rattle.tree_gates.specs.declared.delete_body.DeleteBody.{DeleteBody}

-- the entry is emptied last
abbrev pub empty_entry : DeleteBody → Inner Outcome
empty_entry s = Inner.Store (EntryOf s.mentor s.entry) 0 (Inner.Shows (Value 0))

-- the child's home is stored before it
abbrev pub set_deleted : DeleteBody → Inner Outcome
set_deleted s = Inner.Store (HomeOf s.child) (pack_home H.Deleted) (empty_entry s)

-- the whole body
abbrev pub delete_whole : DeleteBody → Outer Outcome
delete_whole s = delete_body s.class s.mentor s.entry

-- the child's turn
abbrev pub delete_turn : DeleteBody → Outer Outcome
delete_turn s = Outer.Enter s.child (delete_child s.child s.mentor s.entry)

-- what is left, by what is next
abbrev pub delete_rest : DeleteBody → Rest → Outer Outcome
delete_rest s R.Entry = delete_whole s
delete_rest s R.Check = check_entries s.child s.place (8 - s.place) (delete_turn s)
delete_rest s R.Clear = Outer.Store (EntryOf s.mentor s.entry) 0 (Outer.Shows (Value 0))
delete_rest s R.Home = delete_turn s
delete_rest s R.FreeFrame = Outer.Enter s.child (Inner.Store (FrameTenant s.frame) 0 (free_page (page_of s.paged s.page) (set_deleted s)))
delete_rest s R.FreePage = Outer.Enter s.child (Inner.Store (PageTenant s.page) 0 (set_deleted s))
delete_rest s R.SetHome = Outer.Enter s.child (set_deleted s)
delete_rest s R.Empty = Outer.Enter s.child (empty_entry s)
delete_rest s (R.Shown refusal) = Outer.Shows (came_to refusal)
delete_rest s R.Deleted = Outer.Enter s.child (Inner.Shows (Value 0))

-- what is left of the body
abbrev pub delete_left : DeleteBody → Outer Outcome
delete_left s = delete_rest s s.rest
