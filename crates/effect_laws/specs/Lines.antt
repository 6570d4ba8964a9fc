-- The console lines of a class, place by place.
use Rattle.std.specs.Prelude.{ℕ, ◌≤◌, ◌≡◌, List, ◌==◌, Option, length, slice_get}
use Rattle.std.specs.List.{find}
use Rattle.std.specs.Option.{option_map}
use Rattle.words_layout.specs.Sizes.{max_events}
use Rattle.words_layout.specs.declared.op.Event.{Event}
use Rattle.class_model.specs.Config.{Config}
use Rattle.class_model.specs.Run.{run}
use Rattle.class_model.specs.Valid.{IsConfig}
use Rattle.machine.specs.Machine.{ClassPart}
use Rattle.machine.specs.Opening.{machine, effects}
use Rattle.machine.specs.Reading.{buffered}

-- the console line of a place, in the buffers of the processors
abbrev pub line_at : ClassPart → ℕ → Option ℕ
line_at m place = option_map (λ (x : ℕ × ℕ). x.1) (find (λ (x : ℕ × ℕ). x.0 == place) (buffered m))

-- The buffers of a class have these lines: line i is that of place i, none is of a place at or past their number, and there is
-- nothing else in the buffers. All lines have room in the console.
pub record HasLines (console : ℕ) (m : ClassPart) (lines : List ℕ) : Type 0 where
  pub each : (place : ℕ) → line_at m place ≡ slice_get lines place
  pub count : length (buffered m) ≡ length lines
  pub few : length lines ≤ console

-- After at most 4,194,304 events of a valid configuration the buffers of each class have the lines of the machine of whole
-- instructions after the order of effect.
abbrev pub LinesStand : Type 0
LinesStand =
    (k : Config) (events : List Event) (d : ℕ) → IsConfig k → length events ≤ max_events →
    HasLines k.console ((machine k events).part d) ((run k (effects k events)).part d).lines
