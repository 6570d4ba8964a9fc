-- What holds since the input was read, seen from before it was read.
use Rattle.std.proofs.Common.{◌≡◌, ℕ, zero, suc, ◌≤◌, List, Option, ap, subst, ◌∙◌, arith}
use Rattle.host_ports.specs.Ports.{Port, Told, IsPrefixTaken, PushKeeps, with_bytes}
use Rattle.config_text.specs.declared.config.Config.{Config as ConfigText}
use Rattle.loader.specs.Records.{Volumes, Loads}
use Rattle.report.specs.Printing.{Pushed, Torn}
use Rattle.command_input.specs.Input.{Ports, InputRead, IsUnpushed, NoneFailed, OnePushFailed, InputHad}
use Rattle.command_input.proofs.Failures.{none_on, none_push, push_none, push_one}
use Rattle.command_input.proofs.Reading.{reads_kept}
use Rattle.command_run.specs.Shows.{OthersStay}

-- pushing leaves each port the bytes that it had left
pub push_left : (before after : Ports) → PushKeeps 0 before after → (p : ℕ) → (after p).left ≡ (before p).left
push_left before after keeps zero = keeps.left
push_left before after keeps (suc p) = ap (λ (x : Port). x.left) (keeps.others (suc p) (λ e. cc))

-- the input, and the ports that were not pushed to
pub record Kept (before after : Ports) (k : ConfigText) (vs : Volumes) : Type 0 where
  pub input : InputRead before after k vs
  pub images : (p : ℕ) → 1 ≤ p → IsUnpushed (before p) (after p)
  pub others : OthersStay k before after

module _ (wanted : Option ℕ) (before now after : Ports) (k : ConfigText) (vs : Volumes) (had : InputHad wanted before now k vs) where
  pub input_read : Loads k vs → ((p : ℕ) → (after p).left ≡ (now p).left) → InputRead before after k vs
  input_read loads left = record { reads = reads_kept 5 before now after k vs left had.reads; valid = had.volumes; loads = loads }

  pub others_stay : OthersStay k now after → OthersStay k before after
  others_stay stay p some none = stay p some none ∙ had.others p some none

  -- what a port takes after the input was read, it takes in all
  pub taken_in_all : (p : ℕ) (bytes : List ℕ) → (after p).taken ≡ with_bytes (now p).taken bytes → (after p).taken ≡ with_bytes (before p).taken bytes
  taken_in_all p bytes e = e ∙ ap (λ (t : Told). with_bytes t bytes) (had.silent.taken p)

  -- so is a proper prefix of it
  pub torn_in_all : (p : ℕ) (bytes : List ℕ) → IsPrefixTaken (now p).taken (after p).taken bytes → IsPrefixTaken (before p).taken (after p).taken bytes
  torn_in_all p bytes f = subst (λ (t : Told). IsPrefixTaken t (after p).taken bytes) (had.silent.taken p) f

  -- a port that is as it was when the input was read
  pub unpushed : (p : ℕ) → after p ≡ now p → IsUnpushed (before p) (after p)
  unpushed p same = (ap (λ (x : Port). x.taken) same ∙ had.silent.taken p, ap (λ (x : Port). x.pushes) same ∙ had.silent.pushes p)

  -- ---- where only port 0 was pushed to

  pub kept : Loads k vs → PushKeeps 0 now after → Kept before after k vs
  kept loads keeps = record {
    input = input_read loads (push_left now after keeps);
    images = λ p some. unpushed p (keeps.others p (λ e. absurd (omega (arith, e, some))));
    others = others_stay (λ p some none. keeps.others p some);
  }

  pub none_failed : (text : List ℕ) → Pushed now after text → NoneFailed before after
  none_failed text f = none_on before now after had.none (push_none 0 now after f.keeps f.stays)

  pub one_failed : (text : List ℕ) → Torn now after text → OnePushFailed 0 before after
  one_failed text f = none_push 0 before now after had.none (push_one 0 now after f.keeps f.rose)
