use Rattle.fetch_disk.proofs.Unique as unique
use Rattle.fetch_disk.proofs.laws.one_reading.Goals as goal

pub returns-clause-records : goal.returns-clause-records
returns-clause-records c hash bytes es fs s t = unique.one_reading hash bytes es fs s t

pub returns-clause-place : goal.returns-clause-place
returns-clause-place c hash bytes p q d e = unique.one_place hash bytes p q d e

pub returns-clause-sound : goal.returns-clause-sound
returns-clause-sound c hash bytes es p s d = unique.sound hash bytes es p s d

pub returns-clause-known : goal.returns-clause-known
returns-clause-known c hash bytes es e s f = unique.known hash bytes es e s f
