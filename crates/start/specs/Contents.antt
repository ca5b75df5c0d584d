-- The bytes of what stands before the records.
use Rattle.std.specs.Prelude.{ℕ, List, ◌++◌}
use Rattle.fields.specs.Bytes.{bytes_of}
use Rattle.values.specs.Contents.{size_bytes}
use Rattle.start.specs.declared.Start.{Start}
use Rattle.start.specs.Format.{little_magic}

-- The bytes.

-- what stands before the first record: the magic as it is or turned round, and then the version and
-- the two counts
unfoldable pub start_bytes : Start → List ℕ
start_bytes c =
    bytes_of c.dialect.turned 4 little_magic ++ bytes_of c.dialect.big 4 c.dialect.version ++ size_bytes c.dialect c.tensors ++ size_bytes c.dialect c.entries
