-- A stream that comes in pieces, read message by message.
use Rattle.std.specs.Prelude.{ℕ, ◌+◌, ◌-◌, min, List, ◌++◌, length, take, drop, Option, Some, None}
use Rattle.wgsl_server_protocol.specs.declared.front.Front.{Front}
use Rattle.wgsl_server_protocol.specs.declared.front.Front.TheVariants as front
use Rattle.wgsl_server_protocol.specs.declared.reader.Frame.{Frame}
use Rattle.wgsl_server_protocol.specs.declared.reader.Frame.TheVariants as frame

-- the bytes that came and are not read, and how many to come are those of a message that is left out
pub record Pending : Type 0 where
  pub bytes : List ℕ
  pub skipped : ℕ

-- after a piece
abbrev pub fed : Pending → List ℕ → Pending
fed pending piece = record {
  bytes = pending.bytes ++ drop (min pending.skipped (length piece)) piece;
  skipped = pending.skipped - min pending.skipped (length piece);
}

-- after what is at the front is read
abbrev pub after : Pending → Front → Pending
after pending front.Partial = pending
after pending (front.Whole start end) = record { bytes = drop end pending.bytes; skipped = pending.skipped }
after pending (front.Malformed end) = record { bytes = drop end pending.bytes; skipped = pending.skipped }
after pending (front.TooLarge start size) = record {
  bytes = drop (start + min size (length pending.bytes - start)) pending.bytes;
  skipped = size - min size (length pending.bytes - start);
}

-- what is read
pub data Found : Type 0 where
  message : List ℕ → Found
  malformed : Found
  too_large : Found

abbrev pub found : List ℕ → Front → Option Found
found bytes front.Partial = None
found bytes (front.Whole start end) = Some (message (take (end - start) (drop start bytes)))
found bytes (front.Malformed end) = Some malformed
found bytes (front.TooLarge start size) = Some too_large

-- what the code reads as plain data
abbrev pub frame_view : Frame → Found
frame_view (frame.Message body) = message body.items
frame_view frame.Malformed = malformed
frame_view frame.TooLarge = too_large
