-- What a partition's record is kept as that a caller hands in, or that is made of its table.
use Rattle.std.specs.Prelude.{ℕ, ℤ, pos, List, [], Option, None, Some}
use Rattle.cat_values.specs.declared.records.PartRec.{PartRec}
use Rattle.cat_values.specs.declared.records.TableRec.{TableRec}
use Rattle.cat_values.specs.declared.statistics.StatRec.{StatRec}
use Rattle.cat_values.specs.declared.storage.Storage.{Storage}
use Rattle.kept_records.specs.Tables.{cut_moment, dated, lower_storage}

-- a storage, where there is one, with its names of columns in lower case
abbrev pub lower_storage_if_any : Option Storage → Option Storage
lower_storage_if_any None = None
lower_storage_if_any (Some sd) = Some (lower_storage sd)

-- a record with its names of columns in lower case and its date, with this time of creation and these statistics
abbrev pub kept_part : PartRec → ℕ → ℤ → List (List ℕ × StatRec) → PartRec
kept_part rec moment created stats = record {
  created = created;
  accessed = rec.accessed;
  sd = lower_storage_if_any rec.sd;
  params = dated rec.params moment;
  stats = stats;
}

-- a partition that is made: it is created at the moment, and has no statistics
abbrev pub made_part : PartRec → ℕ → PartRec
made_part rec moment = kept_part rec moment (pos (cut_moment moment)) []

-- a partition that is altered: it keeps its time of creation and its statistics
abbrev pub altered_part : PartRec → PartRec → ℕ → PartRec
altered_part old rec moment = kept_part rec moment old.created old.stats

-- a storage without its location
abbrev pub without_location : Storage → Storage
without_location sd = record {
  cols = sd.cols;
  location = None;
  input = sd.input;
  output = sd.output;
  compressed = sd.compressed;
  buckets = sd.buckets;
  serde = sd.serde;
  bucket_cols = sd.bucket_cols;
  sort_cols = sd.sort_cols;
  params = sd.params;
  skew = sd.skew;
  sub_dirs = sd.sub_dirs;
}

-- a partition that is made of its table alone: it is stored as the table is, at no location, and has no parameter but its date
abbrev pub appended_part : TableRec → ℕ → PartRec
appended_part table moment = record {
  created = pos (cut_moment moment);
  accessed = pos 0;
  sd = Some (without_location table.sd);
  params = dated [] moment;
  stats = [];
}
