-- A big-endian file of version 3 in both its forms, and what a call comes to but for the form.
use Rattle.std.specs.Prelude.{ℕ, false, List, ◌∷◌}
use Rattle.reading.specs.Reading.{seen}
use Rattle.header.specs.declared.Header.{Header}
use Rattle.header.specs.Answers.{Outcome}

-- the bytes r behind the magic of a little-endian file and a big-endian version 3
abbrev pub magic_kept : List ℕ → List ℕ
magic_kept r = 0x47 ∷ 0x47 ∷ 0x55 ∷ 0x46 ∷ 0 ∷ 0 ∷ 0 ∷ 3 ∷ r

-- and behind the magic turned round too
abbrev pub magic_turned : List ℕ → List ℕ
magic_turned r = 0x46 ∷ 0x55 ∷ 0x47 ∷ 0x47 ∷ 0 ∷ 0 ∷ 0 ∷ 3 ∷ r

-- a header, whether its magic is turned round or not
abbrev pub either_header : Header → Header
either_header h =
    record { version = h.version; big = h.big; turned = false; entries = h.entries; tensors = h.tensors; alignment = h.alignment; end = h.end; start = h.start }

-- what a call comes to, whether the magic is turned round or not
abbrev pub either_magic : Outcome → Outcome
either_magic o = record { answer = seen either_header o.answer; entries = o.entries; tensors = o.tensors }
