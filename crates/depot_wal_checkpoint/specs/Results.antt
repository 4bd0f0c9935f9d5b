-- The result of a checkpoint as C gets it: what the call returns, and what it leaves in `out`.
-- To be believed. Assumes nothing.
use Rattle.std.specs.Prelude.{List, [], ◌∷◌, ℕ}
use Rattle.wal_types.specs.Refusals.{number_of, place_of}
use Rattle.wal_types.specs.declared.Refusal.TheVariants.{BadName}
use Rattle.wal_types.specs.Results.VersionFound.{VersionFound}
use Rattle.wal_types.specs.Results.VersionFound.{Known, Unknown}
use Rattle.segment_format.specs.Sums.{version_sum}
use Rattle.checkpoint_format.specs.Results.CheckpointAnswer.{CheckpointAnswer}
use Rattle.checkpoint_format.specs.Results.CheckpointAnswer.{Done, Unread, Stopped}
use Rattle.checkpoint_format.specs.Calls.{Checkpointer, checkpointer}
use Rattle.log_checkpoint.specs.Clearing.{cleared_in}

-- a checkpoint by the version of a number: where there is none it is BadName, before everything
-- else; nothing is written, and the work buffers are as after any other answer (FORMAT 1.4, 24.8)
abbrev pub checkpointer_for : VersionFound → Checkpointer
checkpointer_for (Known v) source ids since target work body = checkpointer (version_sum v) source ids since target work body
checkpointer_for Unknown source ids since target work body = record {
  answer = Unread BadName;
  next = 0;
  target = target;
  work = cleared_in work body work;
  body = cleared_in work body body;
}

-- the number of an answer, 0 where nothing was refused
abbrev pub checkpoint_number : CheckpointAnswer → ℕ
checkpoint_number Done = 0
checkpoint_number (Unread why) = number_of why
checkpoint_number (Stopped why start) = number_of why

-- the place: of a reading's refusal its own, of a record that stopped it the record's start in the
-- source (FORMAT 24.4, 24.5)
abbrev pub checkpoint_place : CheckpointAnswer → ℕ
checkpoint_place Done = 0
checkpoint_place (Unread why) = (place_of why).0
checkpoint_place (Stopped why start) = start.0

-- the place up to which records stand in the target (FORMAT 24.6), and the refusal's place
abbrev pub checkpoint_out : CheckpointAnswer → ℕ → List ℕ
checkpoint_out answer next = next ∷ checkpoint_place answer ∷ []
