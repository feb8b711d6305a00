-- What `serve` asks of the server.
use Rattle.std.specs.Prelude.{◌≡◌, ℕ, zero, suc, ◌*◌, Option, None, Some}
use Rattle.std.specs.Duration.{as_nanos}
use Rattle.std.specs.Option.{option_map}
use Rattle.std.specs.declared.time.Duration.{Duration}
use Rattle.hg_options.specs.declared.task.Place.{Place}
use Rattle.hg_options.specs.declared.task.Place.TheVariants.{Port, Socket}
use Rattle.hg_options.specs.declared.task.Serving.{Serving}
use Rattle.hg_server.specs.declared.settings.Place as server
use Rattle.hg_server.specs.declared.settings.Place.TheVariants as its
use Rattle.hg_server.specs.declared.settings.Settings.{Settings}

-- so many seconds in nanoseconds, and 0 is for ever
abbrev pub patience : ℕ → Option ℕ
patience zero = None
patience (suc n) = Some (suc n * 1_000_000_000)

-- a client may be silent for so many seconds
abbrev pub IsSilence : ℕ → Option Duration → Type 0
IsSilence seconds silence = option_map as_nanos silence ≡ patience seconds

-- the place that is asked for
abbrev pub place_for : Place → server.Place
place_for (Port port) = its.Port port
place_for Socket = its.Socket

-- The server is asked what the command line asks for.
pub record AreSettingsOf (serving : Serving) (settings : Settings) : Type 0 where
  pub place : settings.place ≡ place_for serving.place
  pub frames : settings.frames ≡ serving.frames.pages
  pub connections : settings.connections ≡ serving.connections
  pub workers : settings.workers ≡ serving.workers
  pub every : settings.every ≡ serving.every
  pub silence : IsSilence serving.silence settings.silence
