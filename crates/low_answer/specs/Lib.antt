pub mod LowShows
