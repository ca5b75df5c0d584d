-- `writer::write_records` meets its contract: what stands before the records, the entries and the
-- tensors are written one after the other, and the plan tells that there is room for all. Assumes
-- nothing.
use native.Mathlib.Omega.{arith}
use Prim.Native.Nat.{◌-◌}
use lib.ListN.{length, length-take, length-drop}
use borrow.Rule.Slice.PartMut.{same_len_mid}
use Rattle.fields.proofs.Chain.{chain}
use Rattle.writer.proofs.Planned.{planned-by, entries-all, tensors-all, tensors_fit, header-parts, parts_fit, count_small}
use Rattle.writer.proofs.write_records.Goals as goal

pub entry_count-requires : goal.entry_count-requires
entry_count-requires c = count_small (planned-by _ _ _ _ c.requires) (omega (arith, c.well_formed, c.ranges))

pub write_start-a-requires : goal.write_start-a-requires
write_start-a-requires c = omega (arith, parts_fit (planned-by _ _ _ _ c.requires))

pub write_metadata_section-requires-clause-s_value : goal.write_metadata_section-requires-clause-s_value
write_metadata_section-requires-clause-s_value c =
    let p = planned-by _ _ _ _ c.requires in
    entries-all p

pub write_metadata_section-requires-clause-s_in_bounds : goal.write_metadata_section-requires-clause-s_in_bounds
write_metadata_section-requires-clause-s_in_bounds c =
    let p = planned-by _ _ _ _ c.requires in
    simp (length-take, length-drop) (omega (arith, parts_fit p, c.write_start-a.ensures.value, c.write_start-a.auto.out))

pub write_tensor_info_section-requires-clause-first_value : goal.write_tensor_info_section-requires-clause-first_value
write_tensor_info_section-requires-clause-first_value c =
    let p = planned-by _ _ _ _ c.requires in
    tensors-all p

pub write_tensor_info_section-requires-clause-value : goal.write_tensor_info_section-requires-clause-value
write_tensor_info_section-requires-clause-value c =
    let p = planned-by _ _ _ _ c.requires in
    tensors_fit p

pub write_tensor_info_section-requires-clause-first_in_bounds : goal.write_tensor_info_section-requires-clause-first_in_bounds
write_tensor_info_section-requires-clause-first_in_bounds c =
    let p = planned-by _ _ _ _ c.requires in
    simp (length-take, length-drop) (omega (arith, parts_fit p, c.write_start-a.ensures.value, c.write_start-a.auto.out, c.write_metadata_section.ensures.count, same_len_mid c.write_start-a.result (length c.write_start-a.new.out - c.write_start-a.result) c.write_start-a.new.out c.write_metadata_section.new.out c.write_metadata_section.auto.out))

pub returns : goal.returns
returns c = rw (header-parts (planned-by _ _ _ _ c.requires), ← c.entry_count.ensures) (search chain depth 12)
