-- The answer of `depot_wal_resume` as C gets it: what the call returns, and what it leaves in
-- `out`. To be believed. Assumes nothing.
use Rattle.std.specs.Prelude.{List, [], ◌∷◌, ℕ}
use Rattle.wal_types.specs.Refusals.{number_of, place_of}
use Rattle.wal_types.specs.declared.Refusal.TheVariants.{BadName}
use Rattle.wal_types.specs.Results.VersionFound.{VersionFound}
use Rattle.wal_types.specs.Results.VersionFound.{Known, Unknown}
use Rattle.segment_format.specs.declared.Good.{Good}
use Rattle.segment_format.specs.Good.{none_yet}
use Rattle.segment_format.specs.Sums.{version_sum}
use Rattle.resume_format.specs.Results.ResumeAnswer.{ResumeAnswer}
use Rattle.resume_format.specs.Results.ResumeAnswer.{Place, Refused}
use Rattle.resume_format.specs.Resume.{ResumeResult, unresumed, resumer}

-- by the version of a number: where there is none it is BadName, before everything else, and no
-- byte changes (FORMAT 1.4)
abbrev pub resumer_for : VersionFound → List ℕ → ℕ → ResumeResult
resumer_for (Known v) s c = resumer (version_sum v) s c
resumer_for Unknown s c = unresumed BadName none_yet s

-- 0, or the status number (FORMAT 12.1)
abbrev pub resume_code : ResumeAnswer → ℕ
resume_code (Place p) = 0
resume_code (Refused why) = number_of why

-- the place to go on at, after a refusal 0; the refusal's place, else 0; then the good length
abbrev pub resume_out : ResumeAnswer → Good → List ℕ
resume_out (Place p) g = p.0 ∷ 0 ∷ g.records ∷ g.offset.0 ∷ []
resume_out (Refused why) g = 0 ∷ (place_of why).0 ∷ g.records ∷ g.offset.0 ∷ []
