-- The known numbers, all of one table: the checker computes each from the definitions.
-- Assumes nothing.
use mathlib.Core.Path.{refl}
use Rattle.fields.specs.Bytes.{little, bytes_of}
use Rattle.reading.specs.Back.{bytes_of_all}
use Rattle.reading.specs.Ceilings.{under}
use Rattle.reading.specs.Each.{each, check_each}
use Rattle.reading.specs.Reading.{run, here, and_then, seen, ◌>>=◌}
use Rattle.fields.specs.Value.{number}
use Rattle.kinds.specs.Table.{block_of}
use Rattle.layout.specs.Layout.{place_of, layout_from}
use Rattle.scalars.specs.Scalars.{scalar_width}
use Rattle.values.specs.Format.{size, text_looking, text as textRead, key, type, value as valueRead, value_of, array as arrayRead, entry}
use Rattle.tensors.specs.Format.{length_at, lengths_of, shape as shapeRead, kind_and_offset, tensor as tensorRead}
use Rattle.start.specs.Format.{magic, version, counts, start}
use Rattle.header.specs.Format.{header}
use Rattle.values.specs.Contents.{size_bytes, text_bytes, type_bytes, value_bytes, entry_bytes}
use Rattle.tensors.specs.Contents.{length_bytes, shape_bytes, kind_and_offset_bytes, tensor_bytes}
use Rattle.start.specs.Contents.{start_bytes}
use Rattle.header.specs.Contents.{header_bytes}
use Rattle.header.proofs.Examples.{no_records, no_records-1, two-tensors, two-tensors-1}
use Rattle.sheet.specs.Format.{bytes, text_of, text, scalar, array, item, value, opening, framed, entry_body, metadata, shape, tensor_body, tensor}
use Rattle.sheet.specs.Sheet.{as_many_as, next, entries_from, tensors_from, sheet_of}
use Rattle.plan.specs.Plan.{plan_for}
use Rattle.writer.specs.Output.{header_for}
use Rattle.promises.specs.Known.{Known}

pub known : Known
unfolding under header magic version start counts size textRead text_looking shapeRead kind_and_offset tensorRead
    run each check_each number here ◌>>=◌ and_then seen key type valueRead value_of arrayRead entry lengths_of length_at block_of place_of layout_from
    sheet_of entries_from tensors_from as_many_as next text text_of bytes scalar array item value opening framed entry_body metadata shape tensor_body tensor plan_for header_for
    header_bytes start_bytes size_bytes text_bytes type_bytes value_bytes entry_bytes length_bytes shape_bytes kind_and_offset_bytes tensor_bytes bytes_of little bytes_of_all scalar_width
known = record {
  empty-3 = no_records;
  empty-1 = no_records-1;
  two-3 = two-tensors;
  two-1 = two-tensors-1;
  empty-big = refl;
  two-big = refl;
  two-big-held = refl;
  big-1 = refl;
  big-2 = refl;
  two-laid = refl;
  file-134 = refl;
  file-133 = refl;
  kind-30 = refl;
  kind-39 = refl;
  kind-9 = refl;
  kind-20 = refl;
  kind_2 = refl;
  kind-2-alone = refl;
  kind-31 = refl;
  no_dimensions = refl;
  too_long = refl;
  just_fits = refl;
  bf16_read = refl;
  bf16_whole = refl;
  bf16_cut = refl;
  kind-2-read = refl;
  kind-2-alone_read = refl;
  kind-2-long-read = refl;
  kind-2-empty-read = refl;
  kind-31-read = refl;
  no_dimensions_read = refl;
  no_dimensions_row = refl;
  too_long-read = refl;
  just_fits-read = refl;
  misaligned-3 = refl;
  misaligned-1 = refl;
  misaligned-first = refl;
  misaligned_unknown = refl;
  misaligned-empty = refl;
  misaligned-last = refl;
  aligned-last = refl;
  lists-read = refl;
  four-read = refl;
  fourth-empty-read = refl;
  fifth_read = refl;
  third-cut = refl;
  third-type = refl;
  tokens_read = refl;
  long_u8 = refl;
  long_u16 = refl;
  long_f32 = refl;
  long_u64 = refl;
  long-inside = refl;
  no_sheet = λ out. refl;
  only-version = refl;
  then_zeros = refl;
  then_zeros_big = refl;
  big-30 = λ a s out. (refl, refl);
  then_zeros_turned = refl;
  then_zeros_turned-2 = refl;
  then_zeros_turned-1 = refl;
  alignment-64 = refl;
  output-64 = refl;
  written-3 = refl;
  written-1 = refl;
  output-3 = refl;
  output-1 = refl;
  output-big = refl;
  output-lists = refl;
  written-lists = refl;
  output-third = refl;
  output-fourth = refl;
  bad-fourth = λ out. refl;
}
