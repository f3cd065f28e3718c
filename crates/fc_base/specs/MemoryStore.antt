-- The store in memory, as contracts see it, and what its calls answer. This project's own.
use Rattle.std.specs.Prelude.{◌≡◌, ℕ, Bool, true, false, nat_lt, nat_eq, if◌then◌else◌, List, length, ⊤, Option, None, Some, Result, Ok, Err, unwrap_or, Vec}
use Rattle.std.specs.Option.{option_map}
use Rattle.std.specs.List.{list_any}
use Rattle.std.specs.BTreeMap.{get_by_text}
use Rattle.fc_base.specs.Outside.{Files}
use Rattle.fc_base.specs.Outside.{one_more}
use Rattle.fc_base.specs.declared.faults.FetchFault.{FetchFault}
use Rattle.fc_base.specs.declared.faults.FetchFault.TheVariants as fetch
use Rattle.fc_base.specs.declared.faults.KeepFault.{KeepFault}
use Rattle.fc_base.specs.declared.faults.KeepFault.TheVariants as keep
use Rattle.fc_base.specs.declared.memory_store.FaultCounts.{FaultCounts}
use Rattle.fc_base.specs.declared.memory_store.MemStore.{MemStore}

-- how often the calls of a name failed
abbrev pub count_of : FaultCounts → List ℕ → ℕ
count_of faults name = unwrap_or (get_by_text faults.counts name) 0

-- the bytes under each name
abbrev pub files_of : MemStore → Files
files_of store name = option_map (λ bytes. bytes.items) (get_by_text store.files name)

-- how often a fetch of each name failed
abbrev pub fetch_count_of : MemStore → List ℕ → ℕ
fetch_count_of store = count_of store.fetch_faults

-- how often a keep of each name failed
abbrev pub keep_count_of : MemStore → List ℕ → ℕ
keep_count_of store = count_of store.keep_faults

-- the numbers of the calls that are to fail
abbrev pub failing_of : MemStore → List ℕ
failing_of store = store.failing.items

-- how many calls of fetch and keep were made, and so the number of the next one
abbrev pub calls_of : MemStore → ℕ
calls_of store = store.calls

-- whether the next call is to fail
abbrev pub fails_next : MemStore → Bool
fails_next store = list_any (λ call. nat_eq call (calls_of store)) (failing_of store)

-- the bytes found, where they are there and no more than max
abbrev pub at_most : ℕ → Option (List ℕ) → Result (List ℕ) FetchFault
at_most max None = Err fetch.Failed
at_most max (Some bytes) = if nat_lt max (length bytes) then Err fetch.TooLong else Ok bytes

-- what a fetch answers
abbrev pub fetched : MemStore → List ℕ → ℕ → Result (List ℕ) FetchFault
fetched store name max = if fails_next store then Err fetch.Failed else at_most max (files_of store name)

module _ {Y : Type 0} where
  -- a fetch answers as told, or finds no memory
  abbrev pub AnswersFetch : Result (List ℕ) FetchFault → Result (Vec ℕ Y) FetchFault → Type 0
  AnswersFetch told (Ok bytes) = told ≡ Ok bytes.items
  AnswersFetch told (Err fetch.Failed) = told ≡ Err fetch.Failed
  AnswersFetch told (Err fetch.TooLong) = told ≡ Err fetch.TooLong
  AnswersFetch told (Err fetch.NoMemory) = ⊤

-- a keep fails exactly where it is to, or finds no memory
abbrev pub AnswersKeep : Bool → Result (Unit {0}) KeepFault → Type 0
AnswersKeep fails (Ok _) = fails ≡ false
AnswersKeep fails (Err keep.Failed) = fails ≡ true
AnswersKeep fails (Err keep.NoMemory) = ⊤

module _ {A : Type 0} where
  -- the count of a fetch's failures after an answer
  abbrev pub faults_after_fetch : Result A FetchFault → ℕ → ℕ
  faults_after_fetch (Ok _) count = count
  faults_after_fetch (Err fetch.Failed) count = one_more count
  faults_after_fetch (Err fetch.TooLong) count = count
  faults_after_fetch (Err fetch.NoMemory) count = count

  -- the number of calls made after a fetch's answer: one that found no memory is not counted
  abbrev pub calls_after_fetch : Result A FetchFault → ℕ → ℕ
  calls_after_fetch (Ok _) calls = one_more calls
  calls_after_fetch (Err fetch.Failed) calls = one_more calls
  calls_after_fetch (Err fetch.TooLong) calls = one_more calls
  calls_after_fetch (Err fetch.NoMemory) calls = calls

  -- the count of a keep's failures after an answer
  abbrev pub faults_after_keep : Result A KeepFault → ℕ → ℕ
  faults_after_keep (Ok _) count = count
  faults_after_keep (Err keep.Failed) count = one_more count
  faults_after_keep (Err keep.NoMemory) count = count

  -- the number of calls made after a keep's answer: one that found no memory is not counted
  abbrev pub calls_after_keep : Result A KeepFault → ℕ → ℕ
  calls_after_keep (Ok _) calls = one_more calls
  calls_after_keep (Err keep.Failed) calls = one_more calls
  calls_after_keep (Err keep.NoMemory) calls = calls

-- only the files change
pub record KeepsCounts (old new : MemStore) : Type 0 where
  pub fetches : (name : List ℕ) → fetch_count_of new name ≡ fetch_count_of old name
  pub keeps : (name : List ℕ) → keep_count_of new name ≡ keep_count_of old name
  pub failing : failing_of new ≡ failing_of old
  pub calls : calls_of new ≡ calls_of old

-- a new store: no files, no failures, the numbers of the calls that are to fail, and all calls ahead
pub record IsNew (numbers : List ℕ) (store : MemStore) : Type 0 where
  pub files : (name : List ℕ) → files_of store name ≡ None
  pub fetches : (name : List ℕ) → fetch_count_of store name ≡ 0
  pub keeps : (name : List ℕ) → keep_count_of store name ≡ 0
  pub failing : failing_of store ≡ numbers
  pub calls : calls_of store ≡ 0
