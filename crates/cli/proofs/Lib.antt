pub mod ClapJobs
