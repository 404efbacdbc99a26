-- `machine_reply_record::put_records` meets its contract. Invariant: a walk that has passed n records stands at `at`, and `out` begins with
-- `len` bytes, which are the data of the numbers `first` to n. A turn adds record n + 1 as far as the cut allows (`data_turn`); the numbers
-- below `first` add nothing (`data_start`), nor does any once 2,048 bytes are there (`data_full`).
use Rattle.store_records.specs.Body.{records}
use Rattle.machine_reply_record.specs.Joined.{records_data}
use Rattle.objects_writer.proofs.Storing.{Wrote}
use Rattle.store_records.proofs.Walks.{Walked}
use Rattle.machine_reply_record.proofs.put_records.Given as goal

abbrev pub invariant-loop-n : goal.invariant-loop-n
invariant-loop-n l = Walked l.body l._n l.at × Wrote l.initial.out (records_data (records l.body) l.first l._n) l.len l.out
