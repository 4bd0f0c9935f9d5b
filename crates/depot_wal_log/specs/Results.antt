-- The result of a replay as C gets it: what a call leaves in `out`. What it returns is the number
-- of the answer, 0 where nothing was refused (`answer_number`, log_format:Claims). To be believed.
-- Assumes nothing.
use Rattle.std.specs.Prelude.{List, [], ◌∷◌, ℕ}
use Rattle.wal_types.specs.Refusals.{place_of}
use Rattle.wal_types.specs.declared.Refusal.TheVariants.{BadName}
use Rattle.wal_types.specs.Results.VersionFound.{VersionFound}
use Rattle.wal_types.specs.Results.VersionFound.{Known, Unknown}
use Rattle.segment_format.specs.Good.{none_yet}
use Rattle.segment_format.specs.Sums.{version_sum}
use Rattle.log_format.specs.declared.Mode.{Mode}
use Rattle.log_format.specs.Table.{empty}
use Rattle.log_format.specs.Calls.{LogReplayer, replayed, log_replayer}
use Rattle.log_format.specs.Results.ReplayAnswer.{ReplayAnswer}
use Rattle.log_format.specs.Results.ReplayAnswer.{Done, Unread, Stopped}
use Rattle.log_format.specs.declared.GoodReplayed.{GoodReplayed}

-- a replay by the version of a number: where there is none it is BadName, before everything else,
-- with the counts of an empty log, and nothing changes (FORMAT 1.4)
abbrev pub replayer_for : Mode → VersionFound → LogReplayer
replayer_for mode (Known v) s b t = log_replayer mode (version_sum v) s b t
replayer_for mode Unknown s b t = record { result = replayed (Unread BadName) empty 0; good = none_yet; table = t; buffer = b }

-- the place: of a reading's refusal its own, of a refused record the record's start (FORMAT 18.6)
abbrev pub replay_place : ReplayAnswer → ℕ
replay_place Done = 0
replay_place (Unread why) = (place_of why).0
replay_place (Stopped why start) = start.0

-- the place, the series of the table, the orphans, the records skipped, and the good length: the
-- records replayed and the place after the last (FORMAT 18.12)
abbrev pub replay_out : GoodReplayed → List ℕ
replay_out r =
    replay_place r.result.answer ∷ r.result.series ∷ r.result.orphans ∷ r.result.skipped ∷ r.good.records
    ∷ r.good.offset.0 ∷ []
